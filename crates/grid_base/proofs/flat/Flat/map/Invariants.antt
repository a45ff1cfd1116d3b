use Rattle.std.proofs.Common.{◌≡◌, ◌≤◌, ◌++◌, length, vec_len, vec_capacity}
use Rattle.grid_base.proofs.Common.{into_iter_items, MapsThrough}
use Rattle.grid_base.proofs.flat.Flat.map.Given as goal

abbrev pub invariant-loop-cell : goal.invariant-loop-cell
invariant-loop-cell g l = record {
  can : (goal.iterator-loop-cell g).can_next l.cell-iterator;
  finite : (goal.iterator-loop-cell g).is_finite l.cell-iterator;
  rest : l.yielded ++ into_iter_items l.cell-iterator ≡ l.fn.self;
  count : vec_len l.mapped ≡ length l.yielded;
  room : length l.fn.self ≤ vec_capacity l.mapped;
  answers : MapsThrough (λ p x y q. goal.F-step g p x y q) l.initial.f l.yielded l.mapped.items l.f;
}
