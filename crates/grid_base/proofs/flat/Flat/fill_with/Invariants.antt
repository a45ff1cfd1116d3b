use Rattle.std.proofs.Common.{take}
use Rattle.std.specs.List.{FoldsTo}
use Rattle.grid_base.proofs.flat.Flat.fill_with.Given as goal

abbrev pub invariant-loop-cell : goal.invariant-loop-cell
invariant-loop-cell g l = record {
  answers : FoldsTo (λ p x q. goal.F-step g p x q) l.initial.f (take l.cell-index l.cells) l.f;
}
