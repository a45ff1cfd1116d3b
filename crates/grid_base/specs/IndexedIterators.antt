-- What iterators over cells with their positions give.
use Rattle.std.specs.Prelude.{◌≡◌, ℕ, Some, List}
use Rattle.std.specs.Borrow.{Bor, MutBor}
use Rattle.std.specs.Iterator.{YieldsFirst, YieldsFirstBy}
use Rattle.std.specs.Iterator.Runs.{EachRunFrom, AllItems}
use Rattle.grid_base.specs.declared.flat.indexed.IndexedIterMut.{IndexedIterMut}
use Rattle.grid_base.specs.IndexedIterMut.{indexed_mut_rest}
use Rattle.grid_base.specs.Table.{cell, InRange}

module _ {T : Type 0} (t : List (List T)) where
  -- (r, c) is a position of t, and x is the cell there
  abbrev pub IsCellAt : ℕ × ℕ → T → Type 0
  IsCellAt at x = InRange t at.0 at.1 × (cell t at.0 at.1 ≡ Some x)

  -- each item that comes from s is a position of t, and a reference to the cell there
  abbrev pub GivesCells : List ((ℕ × ℕ) × T) → Type 0
  GivesCells s = EachRunFrom (YieldsFirstBy (λ (item : (ℕ × ℕ) × Bor T). (item.0, item.1.now))
      (λ rest. rest)) s (λ p. AllItems p (λ item. IsCellAt item.0 item.1.now))

  -- the same of an iterator by value
  abbrev pub GivesOwnedCells : List ((ℕ × ℕ) × T) → Type 0
  GivesOwnedCells s = EachRunFrom (YieldsFirst (λ (rest : List ((ℕ × ℕ) × T)). rest)) s
      (λ p. AllItems p (λ item. IsCellAt item.0 item.1))

  -- the same of an iterator for writing
  abbrev pub GivesMutCells : IndexedIterMut T → Type 0
  GivesMutCells s = EachRunFrom (YieldsFirstBy (λ (item : (ℕ × ℕ) × MutBor T). (item.0, item.1.now))
      indexed_mut_rest) s (λ p. AllItems p (λ item. IsCellAt item.0 item.1.now))
