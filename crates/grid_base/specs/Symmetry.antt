-- The eight symmetries, as formulas on cells.
use Rattle.std.specs.Prelude.{◌≡◌, ℕ, ◌-◌, ◌*◌, ◌/◌, Bool, true, false, List, [], ◌∷◌, fold, find, nat_eq, unwrap_or, if◌then◌else◌}
use lib.Pointwise.{pointwise}
use Rattle.grid_base.specs.declared.order.Order.{Order}
use Rattle.grid_base.specs.declared.words.Symmetry.{Symmetry}
use Rattle.grid_base.specs.declared.words.Symmetry.TheVariants.{Identity, FlipCols, FlipRows, RotateHalf, Transpose, RotateLeft, RotateRight, AntiTranspose}
use Rattle.grid_base.specs.Table.{row_count, col_count, cell, IsTable, tabulate}
use Rattle.grid_base.specs.Order.{flipped}

-- whether rows become columns
abbrev pub transposes : Symmetry → Bool
transposes Identity = false
transposes FlipCols = false
transposes FlipRows = false
transposes RotateHalf = false
transposes Transpose = true
transposes RotateLeft = true
transposes RotateRight = true
transposes AntiTranspose = true

-- cell (i, j) of the image of a table of m rows and n columns comes from this row of the table
abbrev pub source_row : Symmetry → ℕ → ℕ → ℕ → ℕ → ℕ
source_row Identity m n i j = i
source_row FlipCols m n i j = i
source_row FlipRows m n i j = m - 1 - i
source_row RotateHalf m n i j = m - 1 - i
source_row Transpose m n i j = j
source_row RotateLeft m n i j = j
source_row RotateRight m n i j = m - 1 - j
source_row AntiTranspose m n i j = m - 1 - j

-- and from this column
abbrev pub source_col : Symmetry → ℕ → ℕ → ℕ → ℕ → ℕ
source_col Identity m n i j = j
source_col FlipCols m n i j = n - 1 - j
source_col FlipRows m n i j = j
source_col RotateHalf m n i j = n - 1 - j
source_col Transpose m n i j = i
source_col RotateLeft m n i j = n - 1 - i
source_col RotateRight m n i j = i
source_col AntiTranspose m n i j = n - 1 - i

-- the size of the image of a table of m rows and n columns
abbrev pub image_rows : Symmetry → ℕ → ℕ → ℕ
image_rows s m n = if transposes s then n else m

abbrev pub image_cols : Symmetry → ℕ → ℕ → ℕ
image_cols s m n = if transposes s then m else n

-- u has the size of the image of t
pub record HasImageSize {T : Type 0} (s : Symmetry) (t u : List (List T)) : Type 0 where
  pub rows : row_count u ≡ image_rows s (row_count t) (col_count t)
  pub cols : col_count u ≡ image_cols s (row_count t) (col_count t)

-- the image of a table
unfoldable pub act : {T : Type 0} → Symmetry → List (List T) → List (List T)
act s t =
    tabulate (image_rows s (row_count t) (col_count t)) (image_cols s (row_count t) (col_count t))
    (λ i j. cell t (source_row s (row_count t) (col_count t) i j)
    (source_col s (row_count t) (col_count t) i j))

-- the image under symmetries that act one after another
abbrev pub act_all : {T : Type 0} → List Symmetry → List (List T) → List (List T)
act_all ss t = fold (λ u s. act s u) t ss

-- v acts on each table of integers as s followed by u
pub record IsThen (s u v : Symmetry) : Type 0 where
  pub acts : (t : List (List ℕ)) → IsTable t → act v t ≡ act u (act s t)

-- v undoes s on each table of integers
pub record IsInverse (s v : Symmetry) : Type 0 where
  pub undoes : (t : List (List ℕ)) → IsTable t → act v (act s t) ≡ t

-- however three symmetries are joined, the result is one
abbrev pub IsAssociativeAt : Symmetry → Symmetry → Symmetry → Type 0
IsAssociativeAt s t u = (a b v w : Symmetry) → IsThen s t a → IsThen a u v → IsThen t u b
    → IsThen s b w → v ≡ w

-- joining Identity on either side changes nothing
abbrev pub IsNeutralAt : Symmetry → Type 0
IsNeutralAt s = IsThen Identity s s × IsThen s Identity s

-- an inverse joined on either side gives Identity
abbrev pub IsUndoneAt : Symmetry → Type 0
IsUndoneAt s = (v : Symmetry) → IsInverse s v → IsThen s v Identity × IsThen v s Identity

-- the test table, whose eight images differ
abbrev pub test_table : List (List ℕ)
test_table = (1 ∷ 2 ∷ 3 ∷ []) ∷ (4 ∷ 5 ∷ 6 ∷ []) ∷ []

-- the eight symmetries
abbrev pub symmetries : List Symmetry
symmetries = Identity ∷ FlipCols ∷ FlipRows ∷ RotateHalf ∷ Transpose ∷ RotateLeft ∷ RotateRight
    ∷ AntiTranspose ∷ []

-- the one symmetry that acts on the test table, and so on every table, as these do one after
-- another
unfoldable pub symmetry_of : List Symmetry → Symmetry
symmetry_of ss =
    unwrap_or (find (λ s. pointwise (pointwise nat_eq) (act s test_table) (act_all ss test_table))
    symmetries) Identity

-- the order of a grid on which s has acted
abbrev pub order_after : Symmetry → Order → Order
order_after s o = if transposes s then flipped o else o

-- half of the cells, rounded down
abbrev pub half : ℕ → ℕ → ℕ
half m n = m * n / 2

-- how many swaps a symmetry costs at a table of m rows and n columns
abbrev pub price : Symmetry → ℕ → ℕ → ℕ
price Identity m n = 0
price FlipCols m n = m * (n / 2)
price FlipRows m n = (m / 2) * n
price RotateHalf m n = half m n
price Transpose m n = 0
price RotateLeft m n = m * (n / 2)
price RotateRight m n = n * (m / 2)
price AntiTranspose m n = half m n
