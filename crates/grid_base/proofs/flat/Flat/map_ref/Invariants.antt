use Rattle.std.proofs.Common.{◌≡◌, ◌≤◌, length, vec_len, take, vec_capacity}
use Rattle.grid_base.proofs.Common.{AllZip, FnReturnsAt}
use Rattle.grid_base.proofs.flat.Flat.map_ref.Given as goal

abbrev pub invariant-loop-cell : goal.invariant-loop-cell
invariant-loop-cell g l = record {
  count : vec_len l.mapped ≡ l.cell-index;
  room : length l.cell-items ≤ vec_capacity l.mapped;
  answers : AllZip (λ x y. FnReturnsAt g.F.Fn l.f x y) (take l.cell-index l.cell-items) l.mapped.items;
}
