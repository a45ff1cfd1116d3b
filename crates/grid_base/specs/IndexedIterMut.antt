-- What an iterator over cells for writing, with their positions, has left.
use Rattle.std.specs.Prelude.{ℕ, List, zip}
use Rattle.std.specs.Borrow.{GName}
use Rattle.std.specs.Slice.Iter.{iter_mut_rest, iter_mut_name}
use Rattle.grid_base.specs.declared.flat.indexed.IndexedIterMut.{IndexedIterMut}

module _ {X : Type 0} where
  -- the cells that are left, each with its row and its column
  abbrev pub indexed_mut_rest : IndexedIterMut X → List ((ℕ × ℕ) × X)
  indexed_mut_rest it = zip it.positions (iter_mut_rest it.lent)

  -- the ghost name of the reference to the cells that are left
  abbrev pub indexed_mut_name : IndexedIterMut X → GName
  indexed_mut_name it = iter_mut_name it.lent
