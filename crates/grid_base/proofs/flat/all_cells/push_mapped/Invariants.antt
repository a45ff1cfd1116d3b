use Rattle.std.proofs.Common.{◌≡◌, ◌+◌, take, vec_len, zip, vec_capacity}
use Rattle.grid_base.proofs.Common.{AllZip, positions_of, ReturnsAtCell}
use Rattle.grid_base.proofs.flat.all_cells.push_mapped.Given as goal

abbrev pub invariant-loop-k : goal.invariant-loop-k
invariant-loop-k g l = record {
  room : vec_capacity l.mapped ≡ vec_capacity l.initial.mapped;
  passed : vec_len l.mapped ≡ vec_len l.initial.mapped + l.k;
  answers : AllZip (ReturnsAtCell (λ h at p y. goal.F-post g h at p y) l.f) (take (vec_len l.mapped) (zip (positions_of l.fn.layout) l.fn.cells)) l.mapped.items;
}
