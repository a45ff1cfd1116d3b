-- The sum of a table of numbers, and the numbers that a closure gives for the cells of a table.
use Rattle.std.specs.Prelude.{◌≡◌, ℕ, ℤ, pos, ◌+ℤ◌, ◌≤ℤ◌, ◌<ℤ◌, ◌*ℤ◌, Some, IsSomeAnd, List, map}
use Rattle.std.specs.List.{fold}
use Rattle.grid_base.specs.Table.{row_count, col_count, cell, InRange}
use denote.Ref.{Bor}

-- the sum of numbers
abbrev pub list_sum : List ℤ → ℤ
list_sum zs = fold ◌+ℤ◌ (pos 0) zs

-- the sum of the numbers of a table: that of the sums of its rows
abbrev pub table_sum : List (List ℤ) → ℤ
table_sum t = list_sum (map list_sum t)

-- m is the mean of n numbers whose sum is z, rounded down: m * n is at most z, and (m + 1) * n is more
pub record IsMean (z : ℤ) (n : ℕ) (m : ℤ) : Type 0 where
  pub reaches : (m *ℤ pos n) ≤ℤ z
  pub nearest : z <ℤ ((m +ℤ pos 1) *ℤ pos n)

-- u is t with a number for each cell, as R says; and where R says h of the cell, that is it
module _ {A : Type 0} (R : A → ℤ → Type 0) (t : List (List A)) where
  pub record AreNumbers (u : List (List ℤ)) : Type 0 where
    pub rows : row_count u ≡ row_count t
    pub cols : col_count u ≡ col_count t
    pub each : (r c : ℕ) → InRange t r c
        → IsSomeAnd (cell u r c) (λ z. (x : A) × (cell t r c ≡ Some x) × R x z)
    pub mapped : (h : A → ℤ) → ((x : A) (z : ℤ) → R x z → z ≡ h x) → u ≡ map (map h) t

-- the closure f returns z for a reference to x
abbrev pub ReturnsFor : {F A : Type 0} → (F → Bor A → ℤ → Type 0) → F → A → ℤ → Type 0
ReturnsFor {A = A} returns f x z = (p : Bor A) × (p.now ≡ x) × returns f p z

-- the closure f can be called at a reference to each cell of t
abbrev pub CallableAtCells : {F A : Type 0} → (F → Bor A → Type 0) → F → List (List A) → Type 0
CallableAtCells {A = A} takes f t = (r c : ℕ) (p : Bor A) → InRange t r c
    → cell t r c ≡ Some p.now → takes f p
