-- What a grid ends as, where a `&mut` to a cell is returned.
use Rattle.std.specs.Prelude.{ℕ, Option}
use Rattle.std.specs.Borrow.{Lends, LendsIf, Fml, RattleType, MutBor}
use Rattle.std.specs.declared.alloc.Allocator.{Ghosts}
use Rattle.grid_base.specs.GridValue.{GridValue}
use Rattle.grid.specs.View.{with_grid_cell}
use Rattle.grid.specs.contracts.grid.Grid.{the_row}

module _ (T A : RattleType) (alloc : Ghosts A.Denot) (v : MutBor (GridValue T.Denot)) where
  -- once the borrow x ends, the cell has the last value written through x
  abbrev pub lends_cell : ℕ → ℕ → MutBor T.Denot → Fml
  lends_cell r c x = Lends (the_row T A alloc) T v x (with_grid_cell v.now r c)

  -- the same where there is such a cell; else nothing changes
  abbrev pub lends_cell_if : ℕ → ℕ → Option (MutBor T.Denot) → Fml
  lends_cell_if r c x = LendsIf (the_row T A alloc) T v x (with_grid_cell v.now r c) v.now
