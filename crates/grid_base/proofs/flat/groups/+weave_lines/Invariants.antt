use Rattle.grid_base.proofs.flat.groups.+weave_lines.Given as goal

abbrev pub decreases-weave_lines : goal.decreases-weave_lines
decreases-weave_lines g l = l.groups.lines
