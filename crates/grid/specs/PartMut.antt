-- What a grid ends as, where a part of it is returned for writing.
use Rattle.std.specs.Prelude.{◌≡◌}
use Rattle.std.specs.Borrow.{follows, Fml, RattleType, MutBor, Array}
use Rattle.std.specs.declared.alloc.Allocator.{Ghosts}
use Rattle.grid_base.specs.GridValue.{GridValue}
use Rattle.grid_view.specs.declared.view_mut.GridViewMut.{GridViewMut}
use Rattle.grid_view.specs.ViewMut.{lender, board_cells, board_layout, board_rows}
use Rattle.grid.specs.Iterators.{refilled}
use Rattle.grid.specs.contracts.grid.Grid.{the_row}

-- whatever is written through the part, the grid has the rows of its board then
abbrev pub GivesBack : {T : Type 0} → GridValue T → GridViewMut T → Type 0
GivesBack {T} s it = (v : GridViewMut T) → board_layout v ≡ board_layout it
    → (refilled s (board_cells v)).rows ≡ board_rows v

module _ (T A : RattleType) (alloc : Ghosts A.Denot) (v : MutBor (GridValue T.Denot)) where
  -- once the part has ended, the cells in storage order are those that it was left with; the size
  -- and the order are as they were
  abbrev pub lends_part : GridViewMut T.Denot → Fml
  lends_part it = follows (the_row T A alloc) (Array T 0) v.ghost_name (lender it) (refilled v.now)
