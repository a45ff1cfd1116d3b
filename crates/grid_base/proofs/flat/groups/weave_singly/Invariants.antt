use Rattle.grid_base.proofs.Lemmas.{Bringing}
use Rattle.grid_base.proofs.flat.groups.weave_singly.Given as goal

abbrev pub invariant-loop-line : goal.invariant-loop-line
invariant-loop-line g l = Bringing l.groups.lines l.groups.width l.groups.at l.groups.count l.line l.fn.cells l.cells
