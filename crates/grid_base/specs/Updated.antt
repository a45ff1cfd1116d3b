-- Cells that a closure replaces or maps, of a whole table or from a place in the storage on. No public
-- clause cites it.
use Rattle.std.specs.Prelude.{◌≡◌, ◌<◌, ◌≤◌, ◌*◌, ℕ, List, Some, length, zip, slice_get}
use Rattle.grid_base.specs.declared.layout.Layout.{Layout}
use Rattle.grid_base.specs.ClosureCalls.{CallableAtCells, PairsUp}
use Rattle.grid_base.specs.Layout.{positions_of}
use denote.Ref.{Bor}

-- the closure f can be called at each position of ps and a reference to the cell of xs there, from
-- place i on
pub record CallableFrom {F P A : Type 0} (takes : F → P → Bor A → Type 0) (f : F) (ps : List P)
    (xs : List A) (i : ℕ) : Type 0 where
  pub at : (k : ℕ) (at : P) (p : Bor A) → i ≤ k → slice_get ps k ≡ Some at
      → slice_get xs k ≡ Some p.now → takes f at p

-- ys are the cells xs, of which those from place i on and before place j are replaced: R says what by,
-- of a position in ps and the old cell
pub record UpdatedFrom {P A : Type 0} (R : P × A → A → Type 0) (ps : List P) (xs : List A) (i j : ℕ)
    (ys : List A) : Type 0 where
  pub len : length ys ≡ length xs
  pub before : (k : ℕ) → k < i → slice_get ys k ≡ slice_get xs k
  pub behind : (k : ℕ) → j ≤ k → slice_get ys k ≡ slice_get xs k
  pub answers : (k : ℕ) (at : P) (x y : A) → i ≤ k → k < j → slice_get ps k ≡ Some at
      → slice_get xs k ≡ Some x → slice_get ys k ≡ Some y → R (at, x) y

-- xs are the cells of the layout, and the closure f can be called at each position and its cell
abbrev pub CallableAtTable : {F A : Type 0} → (F → ℕ × ℕ → Bor A → Type 0) → F → Layout → List A
    → Type 0
CallableAtTable takes f layout xs = (length xs ≡ layout.rows * layout.cols)
    × CallableAtCells takes f (zip (positions_of layout) xs)

-- R holds of each position with its cell of xs, and the item of ys there
abbrev pub PairsUpTable : {A B : Type 0} → ((ℕ × ℕ) × A → B → Type 0) → Layout → List A → List B
    → Type 0
PairsUpTable R layout xs ys = PairsUp R (zip (positions_of layout) xs) ys
