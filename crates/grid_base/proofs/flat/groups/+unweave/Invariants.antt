use Rattle.grid_base.proofs.flat.groups.+unweave.Given as goal

abbrev pub decreases-unweave : goal.decreases-unweave
decreases-unweave g l = l.groups.lines
