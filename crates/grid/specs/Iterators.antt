-- What a grid ends as, once a slice or an iterator for writing has ended.
use Rattle.std.specs.Prelude.{◌≡◌, ℕ, List, ◌++◌, length, take, drop, refl}
use Rattle.grid_base.specs.Prelude.{row_count, col_count, storage, place, GridValue, line_mut_cells, line_mut_name}
use Rattle.std.proofs.Common.{sym}
use Rattle.std.specs.List.{refill, length_refill}
use Rattle.std.specs.Borrow.{follows, Lends, Fml, RattleType, MutBor, Array}
use Rattle.std.specs.Slice.Iter.{iter_mut_name}
use Rattle.std.specs.declared.slice.IterMut.{IterMut}
use Rattle.std.specs.declared.alloc.Allocator.{Ghosts}
use Rattle.grid_base.specs.declared.flat.line_iter_mut.GridLineIterMut.{GridLineIterMut}
use Rattle.grid_base.specs.declared.flat.indexed.IndexedIterMut.{IndexedIterMut}
use Rattle.grid_base.specs.FlatLends.{written_from}
use Rattle.grid_base.specs.IndexedIterMut.{indexed_mut_name}
use Rattle.grid.specs.View.{with_cells}
use Rattle.grid.specs.contracts.grid.Grid.{the_row}

module _ {T : Type 0} (s : GridValue T) where
  -- the cells in storage order
  abbrev pub stored : List T
  stored = storage s.order s.rows

  -- the grid of the same size and order with ws written over its own cells from the first on
  abbrev pub refilled : List T → GridValue T
  refilled ws = with_cells s (refill (length stored) stored ws)
      (sym (length_refill (length stored) stored ws refl))

  -- or from the place of cell (r, c) on
  abbrev pub refilled_from : ℕ → ℕ → List T → GridValue T
  refilled_from r c ws =
      let start = place s.order (row_count s.rows) (col_count s.rows) r c in
      with_cells s (written_from start stored ws)
      (sym (length_refill (length stored) stored
      (take start stored ++ (ws ++ drop (length ws) (drop start stored))) refl))

  -- with all that the iterator holds written over them from the place of cell (r, c) on, the rows
  -- are as they were
  abbrev pub HoldsRowsFrom : ℕ → ℕ → GridLineIterMut T → Type 0
  HoldsRowsFrom r c it = (refilled_from r c (line_mut_cells it)).rows ≡ s.rows

  -- a table of the same size
  abbrev pub IsSameSize : List (List T) → Type 0
  IsSameSize t = (row_count t ≡ row_count s.rows) × (col_count t ≡ col_count s.rows)

  -- whatever is written, the size stays
  abbrev pub KeepsSize : Type 0
  KeepsSize = (ws : List T) → IsSameSize (refilled ws).rows

  abbrev pub KeepsSizeFrom : ℕ → ℕ → Type 0
  KeepsSizeFrom r c = (ws : List T) → IsSameSize (refilled_from r c ws).rows

module _ (T A : RattleType) (alloc : Ghosts A.Denot) (v : MutBor (GridValue T.Denot)) where
  -- once the slice has ended, the cells in storage order are those that it was left with; the size
  -- and the order are as they were
  abbrev pub lends_slice : MutBor (List T.Denot) → Fml
  lends_slice s = Lends (the_row T A alloc) (Array T 0) v s (refilled v.now)

  -- once the iterator has ended, the size and the order are as they were; what the cells are is
  -- left to the iterator
  abbrev pub lends_cells : IterMut T.Denot → Fml
  lends_cells it = follows (the_row T A alloc) (Array T 0) v.ghost_name (iter_mut_name it)
      (refilled v.now)

  abbrev pub lends_indexed : IndexedIterMut T.Denot → Fml
  lends_indexed it = follows (the_row T A alloc) (Array T 0) v.ghost_name (indexed_mut_name it)
      (refilled v.now)

  -- the same of an iterator along a row or a column, where the cells before its first one are as
  -- they were
  abbrev pub lends_row : ℕ → GridLineIterMut T.Denot → Fml
  lends_row r it = follows (the_row T A alloc) (Array T 0) v.ghost_name (line_mut_name it)
      (refilled_from v.now r 0)

  abbrev pub lends_col : ℕ → GridLineIterMut T.Denot → Fml
  lends_col c it = follows (the_row T A alloc) (Array T 0) v.ghost_name (line_mut_name it)
      (refilled_from v.now 0 c)
