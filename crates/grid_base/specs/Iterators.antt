-- What iterators give: what they have left, and that loops and chains get it in order, or from the
-- end in reverse.
use Rattle.std.specs.Prelude.{◌≡◌, ℕ, ◌^◌, ◌<◌, List, length, zip}
use Rattle.std.specs.Iterator.Runs.{YieldsInOrder, YieldsInReverse, YieldsRefsInOrder, YieldsRefsInReverse, YieldsMutRefsInOrder, YieldsMutRefsInReverse}
use Rattle.std.specs.Slice.Iter.{iter_rest, iter_steps, iter_steps_back, iter_mut_rest, iter_mut_steps, iter_mut_steps_back}
use Rattle.std.specs.Vec.Iter.{into_iter_items, into_iter_steps, into_iter_steps_back}
use Rattle.std.specs.declared.slice.Iter.{Iter}
use Rattle.std.specs.declared.slice.IterMut.{IterMut}
use Rattle.std.specs.declared.vec.IntoIter.{IntoIter}
use Rattle.grid_base.specs.declared.order.Order.{Order}
use Rattle.grid_base.specs.declared.flat.indexed.IndexedIterMut.{IndexedIterMut}
use Rattle.grid_base.specs.Table.{row_count, col_count}
use Rattle.grid_base.specs.Order.{storage}
use Rattle.grid_base.specs.Positions.{positions}
use Rattle.grid_base.specs.Strides.{LinesInOrder, LinesInReverse, EachLineInOrder, EachLineInReverse}
use Rattle.grid_base.specs.IndexedIterMut.{indexed_mut_rest}
use Rattle.grid_base.specs.IndexedIterators.{GivesCells, GivesOwnedCells, GivesMutCells}

module _ {T : Type 0} where
  -- an iterator over a slice gives these cells
  abbrev pub GivesRefs : List T → Iter T → Type 0
  GivesRefs xs it = (iter_rest it ≡ xs) × YieldsRefsInOrder (iter_steps {A = T}) iter_rest
      × YieldsRefsInReverse (iter_steps_back {A = T}) iter_rest

  -- the same of an iterator for writing
  abbrev pub GivesMutRefs : List T → IterMut T → Type 0
  GivesMutRefs xs it = (iter_mut_rest it ≡ xs)
      × YieldsMutRefsInOrder (iter_mut_steps {A = T}) iter_mut_rest
      × YieldsMutRefsInReverse (iter_mut_steps_back {A = T}) iter_mut_rest

  -- the same of an iterator by value
  abbrev pub GivesOwned : {A : Type 0} → List T → IntoIter T A → Type 0
  GivesOwned {A} xs it = (into_iter_items it ≡ xs)
      × YieldsInOrder (into_iter_steps {X = T} {Z = A}) into_iter_items
      × YieldsInReverse (into_iter_steps_back {X = T} {Z = A}) into_iter_items

  -- an iterator along a line gives these cells, whose count fits a `usize`
  abbrev pub GivesLine : List T → List T → Type 0
  GivesLine xs it = (it ≡ xs) × LinesInOrder T × LinesInReverse T × (length it < 2 ^ 64)

  -- an iterator over lines gives these lines, whose count fits a `usize`, and each line its cells
  abbrev pub GivesLines : List (List T) → List (List T) → Type 0
  GivesLines lines it = (it ≡ lines) × EachLineInOrder T × EachLineInReverse T × LinesInOrder T
      × LinesInReverse T × (length it < 2 ^ 64)

module _ {T : Type 0} (o : Order) (t : List (List T)) where
  -- the cells in storage order, each with its row and its column
  abbrev pub indexed_cells : List ((ℕ × ℕ) × T)
  indexed_cells = zip (positions o (row_count t) (col_count t)) (storage o t)

  -- an iterator over cells with their positions gives these, whose count fits a `usize`
  abbrev pub GivesIndexed : List ((ℕ × ℕ) × T) → Type 0
  GivesIndexed it = (it ≡ indexed_cells) × GivesCells t it × (length it < 2 ^ 64)

  -- the same of an iterator by value
  abbrev pub GivesOwnedIndexed : List ((ℕ × ℕ) × T) → Type 0
  GivesOwnedIndexed it = (it ≡ indexed_cells) × GivesOwnedCells t it × (length it < 2 ^ 64)

  -- the same of an iterator for writing
  abbrev pub GivesMutIndexed : IndexedIterMut T → Type 0
  GivesMutIndexed it = (indexed_mut_rest it ≡ indexed_cells) × GivesMutCells t it
      × (length (indexed_mut_rest it) < 2 ^ 64)
