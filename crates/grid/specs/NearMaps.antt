-- What a closure answers at a cell and the cells around it.
use Rattle.std.specs.Prelude.{◌≡◌, ℕ, Some, Bool, List, Result, IfOk}
use denote.Ref.{Bor}
use Rattle.grid_base.specs.Prelude.{GridValue}
use Rattle.grid_base.specs.Table.{cell, InRange}
use Rattle.grid_near.specs.Marks.{TakesCounted, AnswersCounted, TakesSummed, AnswersSummed}
use Rattle.grid.specs.AllCells.{CallableAtPositions, MappedBy}

module _ {F T : Type 0} (near : List (List T) → ℕ → ℕ → List ((ℕ × ℕ) × T)) where
  -- the closure f can be called at this position of the table t, a reference to the cell there, and
  -- the cells near it
  abbrev pub ReachesAround : (F → ℕ × ℕ → Bor T → List ((ℕ × ℕ) × T) → Type 0) → F → List (List T)
      → ℕ × ℕ
      → Bor T → Type 0
  ReachesAround takes f t at p = InRange t at.0 at.1 × takes f at p (near t at.0 at.1)

  -- it can be called so at each position
  abbrev pub CallableAround : (F → ℕ × ℕ → Bor T → List ((ℕ × ℕ) × T) → Type 0) → F → List (List T)
      → Type 0
  CallableAround takes f t = (r c : ℕ) (p : Bor T) → InRange t r c → cell t r c ≡ Some p.now
      → takes f (r, c) p (near t r c)

  -- y is something that the closure f may return at a position of the table t, a reference to the
  -- cell there, and the cells near it
  abbrev pub ReturnsAround : {B : Type 0} → (F → ℕ × ℕ → Bor T → List ((ℕ × ℕ) × T) → B → Type 0)
      → List (List T) → F → ℕ × ℕ → Bor T → B → Type 0
  ReturnsAround returns t f at p y = returns f at p (near t at.0 at.1) y

  -- a grid that was made is what f returns so at each position
  abbrev pub MapAround : {B E : Type 0} → (F → ℕ × ℕ → Bor T → List ((ℕ × ℕ) × T) → B → Type 0) → F
      → List (List T) → Result (GridValue B) E → Type 0
  MapAround returns f t made = IfOk made (λ v. MappedBy (ReturnsAround returns t) f t v.rows)

module _ {F G T : Type 0} (near : List (List T) → ℕ → ℕ → List ((ℕ × ℕ) × T))
    (returns : F → Bor T → Bool → Type 0) (f : F) where
  -- the closure g can be called at each cell of the table t and how many of those near it the closure
  -- f answers true at
  abbrev pub CallableCounted : (G → Bor T → ℕ → Type 0) → G → List (List T) → Type 0
  CallableCounted takes g t = CallableAtPositions (TakesCounted near returns f t takes) g t

  -- a grid that was made is what g returns so
  abbrev pub MapCounts : {U E : Type 0} → (G → Bor T → ℕ → U → Type 0) → G → List (List T)
      → Result (GridValue U) E → Type 0
  MapCounts answers g t made =
      IfOk made (λ v. MappedBy (AnswersCounted near returns f t answers) g t v.rows)

module _ {F G T : Type 0} (near : List (List T) → ℕ → ℕ → List ((ℕ × ℕ) × T))
    (returns : F → Bor T → ℕ → Type 0) (f : F) where
  -- the same of the sum of what f answers at those near it
  abbrev pub CallableSummed : (G → Bor T → ℕ → Type 0) → G → List (List T) → Type 0
  CallableSummed takes g t = CallableAtPositions (TakesSummed near returns f t takes) g t

  abbrev pub MapSums : {U E : Type 0} → (G → Bor T → ℕ → U → Type 0) → G → List (List T)
      → Result (GridValue U) E → Type 0
  MapSums answers g t made =
      IfOk made (λ v. MappedBy (AnswersSummed near returns f t answers) g t v.rows)
