-- What a run of commands rests on holds of integers.
use Rattle.grid.specs.Prelude.{Edit, read, push, insert_at, insert_all, pop, remove_at, delete_at, delete_range, expand, prepend, CommandValue, size, get, set_cell, swap_cells, lines, fill, clear, apply, IsOnlyDefault, EditIsKnown, RowsAreKnown}
use Rattle.grid_base.specs.Clones.{ClonesAreEqual}

module _ {T : Type 0} (is_default : T → Type 0) (is_clone : T → T → Type 0) (d : T) (only : IsOnlyDefault is_default d) (same : ClonesAreEqual is_clone) where
  edit_is_known : (e : Edit T) → EditIsKnown is_default d e
  edit_is_known (expand k) = only
  edit_is_known (prepend k) = only
  edit_is_known (read i) = tt
  edit_is_known (push line) = tt
  edit_is_known (insert_at i line) = tt
  edit_is_known (insert_all i ls) = tt
  edit_is_known pop = tt
  edit_is_known (remove_at i) = tt
  edit_is_known (delete_at i) = tt
  edit_is_known (delete_range i k) = tt

  pub rows_are_known : (x : CommandValue T) → RowsAreKnown is_default is_clone d x
  rows_are_known (lines a e) = edit_is_known e
  rows_are_known (fill v) = same
  rows_are_known size = tt
  rows_are_known (get r c) = tt
  rows_are_known (set_cell r c v) = tt
  rows_are_known (swap_cells p q) = tt
  rows_are_known clear = tt
  rows_are_known (apply s) = tt
