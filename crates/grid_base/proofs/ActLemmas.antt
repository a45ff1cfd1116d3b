-- The image of a table under a symmetry.
use Rattle.std.proofs.Common.{◌≡◌, ℕ, ◌<◌, Option, List, refl, ◌∙◌, arith}
use Rattle.grid_base.specs.declared.words.Symmetry.{Symmetry}
use Rattle.grid_base.specs.declared.words.Symmetry.TheVariants.{Identity, FlipCols, FlipRows, RotateHalf, Transpose, RotateLeft, RotateRight, AntiTranspose}
use Rattle.grid_base.specs.Table.{row_count, col_count, cell, IsTable, IsSize, tabulate, transposed}
use Rattle.grid_base.specs.Symmetry.{source_row, source_col, image_rows, image_cols, act}
use Rattle.grid_base.proofs.TableLemmas.{rows-tabulate, cols-tabulate, cell-tabulate, tabulate-same, IsFull, IsTable-tabulate, IsFull-cells, IsSize-table}

-- a cell of the image comes from within the table
pub source_within : (s : Symmetry) (m n i j : ℕ) → i < image_rows s m n → j < image_cols s m n → (source_row s m n i j < m) × (source_col s m n i j < n)
source_within Identity m n i j p q = (omega arith, omega arith)
source_within FlipCols m n i j p q = (omega arith, omega arith)
source_within FlipRows m n i j p q = (omega arith, omega arith)
source_within RotateHalf m n i j p q = (omega arith, omega arith)
source_within Transpose m n i j p q = (omega arith, omega arith)
source_within RotateLeft m n i j p q = (omega arith, omega arith)
source_within RotateRight m n i j p q = (omega arith, omega arith)
source_within AntiTranspose m n i j p q = (omega arith, omega arith)

pub IsSize-image : (s : Symmetry) (m n : ℕ) → IsSize m n → IsSize (image_rows s m n) (image_cols s m n)
IsSize-image Identity m n h = h
IsSize-image FlipCols m n h = h
IsSize-image FlipRows m n h = h
IsSize-image RotateHalf m n h = h
IsSize-image Transpose m n h = record { has_cols = h.has_rows; has_rows = h.has_cols }
IsSize-image RotateLeft m n h = record { has_cols = h.has_rows; has_rows = h.has_cols }
IsSize-image RotateRight m n h = record { has_cols = h.has_rows; has_rows = h.has_cols }
IsSize-image AntiTranspose m n h = record { has_cols = h.has_rows; has_rows = h.has_cols }

-- cell (i, j) of the image of the table with the cells f
abbrev pub image_cell : {T : Type 0} → Symmetry → ℕ → ℕ → (ℕ → ℕ → Option T) → ℕ → ℕ → Option T
image_cell s m n f i j = f (source_row s m n i j) (source_col s m n i j)

pub IsFull-image : {T : Type 0} (s : Symmetry) (m n : ℕ) (f : ℕ → ℕ → Option T) → IsFull m n f → IsFull (image_rows s m n) (image_cols s m n) (image_cell s m n f)
IsFull-image s m n f h = record { full = λ i j p q. let w = source_within s m n i j p q in h.full _ _ w.0 w.1 }

act_at : {T : Type 0} (s : Symmetry) (t : List (List T)) (m n : ℕ) → row_count t ≡ m → col_count t ≡ n → act s t ≡ tabulate (image_rows s m n) (image_cols s m n) (image_cell s m n (cell t))
unfolding act
act_at s t m n p q = rw (p, q)

-- the image of a table that is given by its cells
pub act-tabulate : {T : Type 0} (s : Symmetry) (m n : ℕ) (f : ℕ → ℕ → Option T) → IsSize m n → IsFull m n f → act s (tabulate m n f) ≡ tabulate (image_rows s m n) (image_cols s m n) (image_cell s m n f)
act-tabulate s m n f z h =
    act_at s (tabulate m n f) m n (rows-tabulate m n f) (cols-tabulate m n f z h)
    ∙ tabulate-same _ _ _ _ (λ i j p q. let w = source_within s m n i j p q in cell-tabulate m n f _ _ h w.0 w.1) (IsFull-image s m n f h)

-- the image of a table is a table
pub IsTable-act : {T : Type 0} (s : Symmetry) (t : List (List T)) → IsTable t → IsTable (act s t)
unfolding act
IsTable-act s t h = IsTable-tabulate _ _ _ (IsSize-image s _ _ (IsSize-table t h)) (IsFull-image s _ _ (cell t) (IsFull-cells t h))

pub rows-act : {T : Type 0} (s : Symmetry) (t : List (List T)) → row_count (act s t) ≡ image_rows s (row_count t) (col_count t)
unfolding act
rows-act s t = rows-tabulate _ _ _

pub cols-act : {T : Type 0} (s : Symmetry) (t : List (List T)) → IsTable t → col_count (act s t) ≡ image_cols s (row_count t) (col_count t)
unfolding act
cols-act s t h = cols-tabulate _ _ _ (IsSize-image s _ _ (IsSize-table t h)) (IsFull-image s _ _ (cell t) (IsFull-cells t h))

pub cell-act : {T : Type 0} (s : Symmetry) (t : List (List T)) (i j : ℕ) → IsTable t → i < image_rows s (row_count t) (col_count t) → j < image_cols s (row_count t) (col_count t) → cell (act s t) i j ≡ image_cell s (row_count t) (col_count t) (cell t) i j
unfolding act
cell-act s t i j h p q = cell-tabulate _ _ _ i j (IsFull-image s _ _ (cell t) (IsFull-cells t h)) p q

pub act_is_transposed : {T : Type 0} (t : List (List T)) → act Transpose t ≡ transposed t
unfolding act
act_is_transposed t = refl
