-- What the constructors of a grid say of its table.
use Rattle.std.specs.Prelude.{◌≡◌, ◌≢◌, ◌↔◌, ◌<◌, ◌≤◌, ◌^◌, ℕ, ◌*◌, List, [], Option, Some, Result, Ok, Err, IsOk, IsErrOf, IsSomeAnd, All}
use Rattle.grid_base.specs.Prelude.{row_count, col_count, cell, InRange, tabulate, place, storage, GridValue, FitsUsize}
use Rattle.grid_base.specs.declared.order.Order.{Order}
use Rattle.grid_commands.specs.declared.error.GridError.{GridError}
use Rattle.grid_commands.specs.declared.error.GridError.TheVariants.{TooLarge}

-- m rows of n cells are more cells than `usize::MAX`
abbrev pub ExceedsMax : ℕ → ℕ → Type 0
ExceedsMax m n = 2 ^ 64 ≤ m * n

-- a table of m rows and n columns, which is empty where it has no cells
pub record HasSize {T : Type 0} (m n : ℕ) (t : List (List T)) : Type 0 where
  pub none : m * n ≡ 0 → t ≡ []
  pub rows : m * n ≢ 0 → row_count t ≡ m
  pub cols : m * n ≢ 0 → col_count t ≡ n

-- a grid of this order, of m rows and n columns
pub record IsMade {T : Type 0} (o : Order) (m n : ℕ) (g : GridValue T) : Type 0 where
  pub order : g.order ≡ o
  pub size : HasSize m n g.rows

-- it fails as too large exactly where m rows of n cells are too many, and never where they are no
-- cells
pub record FailsBySize {X : Type 0} (m n : ℕ) (made : Result X GridError) : Type 0 where
  pub too_large : IsErrOf made TooLarge ↔ ExceedsMax m n
  pub no_cells : m * n ≡ 0 → IsOk made

-- every cell of a table is d
abbrev pub EachCellIs : {T : Type 0} → T → List (List T) → Type 0
EachCellIs d t = (r c : ℕ) → InRange t r c → cell t r c ≡ Some d

-- a type has one default, d
abbrev pub IsOnlyDefault : {T : Type 0} → (T → Type 0) → T → Type 0
IsOnlyDefault {T} is_default d = (x : T) → is_default x → x ≡ d

-- each cell of a grid is a default; it is d where the type has one default, d
pub record HoldsDefaults {T : Type 0} (is_default : T → Type 0) (g : GridValue T) : Type 0 where
  pub each : All is_default (storage g.order g.rows)
  pub one_default : (d : T) → IsOnlyDefault is_default d → EachCellIs d g.rows

-- the closure f can be called at each position of m rows and n columns, where a vector can hold
-- their cells
abbrev pub CallableOver : {F : Type 0} → (F → ℕ × ℕ → Type 0) → F → ℕ → ℕ → Type 0
CallableOver takes f m n = (r c : ℕ) → r < m → c < n → FitsUsize m n → takes f (r, c)

module _ {F T : Type 0} (returns : F → ℕ × ℕ → T → Type 0) (f : F) (m n : ℕ) where
  -- u is the table of what f returns at each position of m rows and n columns: where there are
  -- cells, that of any h which gives whatever f may return; and each cell is something that it may
  pub record MadeBy (u : List (List T)) : Type 0 where
    pub tabulated : (h : ℕ → ℕ → Option T)
        → ((r c : ℕ) (y : T) → r < m → c < n → returns f (r, c) y → h r c ≡ Some y) → 0 < m → 0 < n
        → u ≡ tabulate m n h
    pub answers : (r c : ℕ) → r < m → c < n → IsSomeAnd (cell u r c) (λ y. returns f (r, c) y)

-- a call failed with e at some position, and answered at each position that is stored before it
pub record FailsAt {B E : Type 0} (returns : ℕ × ℕ → Result B E → Type 0) (o : Order) (m n : ℕ)
    (e : E) : Type 0 where
  pub r : ℕ
  pub c : ℕ
  pub row_in : r < m
  pub col_in : c < n
  pub fails : returns (r, c) (Err e)
  pub before : (i j : ℕ) → i < m → j < n → place o m n i j < place o m n r c
      → (y : B) × returns (i, j) (Ok y)
