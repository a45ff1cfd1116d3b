use Rattle.std.proofs.Common.{◌≤◌}
use Rattle.grid_base.proofs.Lemmas.{Sending}
use Rattle.grid_base.proofs.flat.groups.unweave_singly.Given as goal

abbrev pub invariant-loop-line : goal.invariant-loop-line
invariant-loop-line g l = record {
  run : Sending l.groups.lines l.groups.width l.groups.at l.groups.count l.line l.fn.cells l.cells;
  within : l.line ≤ l.groups.lines;
}

abbrev pub decreases-loop-line : goal.decreases-loop-line
decreases-loop-line g l = l.line
