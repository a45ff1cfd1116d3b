-- The strides of an order, the cells of a list at a stride, and what the iterators over lines give.
use Rattle.std.specs.Prelude.{ℕ, zero, suc, ◌-◌, List, [], ◌∷◌, take, drop}
use Rattle.std.specs.Iterator.{YieldsFirst, YieldsLast, YieldsFirstRef, YieldsLastRef}
use Rattle.std.specs.Iterator.Runs.{YieldsInOrder, YieldsInReverse, YieldsRefsInOrder, YieldsRefsInReverse}
use Rattle.grid_base.specs.declared.order.Order.{Order}
use Rattle.grid_base.specs.declared.order.Order.TheVariants.{RowMajor, ColumnMajor}

-- how far apart the cells of a column are, and those of a row, in a table of a size
abbrev pub strides_of : Order → ℕ × ℕ → ℕ × ℕ
strides_of RowMajor size = (size.1, 1)
strides_of ColumnMajor size = (1, size.0)

module _ {X : Type 0} where
  -- the item after `skip` others, and from there on each one after `gap` others
  abbrev pub every : ℕ → ℕ → List X → List X
  every skip gap [] = []
  every zero gap (x ∷ xs) = x ∷ every gap gap xs
  every (suc skip) gap (x ∷ xs) = every skip gap xs

  -- the cells from start on and before end, each `stride` places after the last
  abbrev pub strided : ℕ → ℕ → ℕ → List X → List X
  strided start end stride xs = every 0 (stride - 1) (take (end - start) (drop start xs))

module _ (X : Type 0) where
  -- each run of an iterator along a line gives the cells that it had left, in order
  abbrev pub LinesInOrder : Type 0
  LinesInOrder = YieldsRefsInOrder (YieldsFirstRef (λ (rest : List X). rest)) (λ rest. rest)

  -- the same from its end, in reverse
  abbrev pub LinesInReverse : Type 0
  LinesInReverse = YieldsRefsInReverse (YieldsLastRef (λ (rest : List X). rest)) (λ rest. rest)

  -- each run of an iterator over lines gives the lines that it had left, in order
  abbrev pub EachLineInOrder : Type 0
  EachLineInOrder = YieldsInOrder (YieldsFirst (λ (rest : List (List X)). rest)) (λ rest. rest)

  -- the same from the last line, in reverse
  abbrev pub EachLineInReverse : Type 0
  EachLineInReverse = YieldsInReverse (YieldsLast (λ (rest : List (List X)). rest)) (λ rest. rest)
