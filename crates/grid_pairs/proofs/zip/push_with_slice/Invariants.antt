use Rattle.std.proofs.Common.{◌≡◌, vec_capacity}
use Rattle.grid_base.proofs.Common.{row}
use Rattle.grid_pairs.specs.Answered.{Appended}
use Rattle.grid_pairs.proofs.zip.push_with_slice.Given as goal

abbrev pub invariant-loop-col : goal.invariant-loop-col
invariant-loop-col g l = record {
  room : vec_capacity l.made ≡ vec_capacity l.fn.made;
  items : Appended (λ h p q z. goal.F-post g h p q z) l.f l.col l.cells (row l.other.rows l.r) l.fn.made.items l.made.items;
}
