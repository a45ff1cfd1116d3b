-- What a grid's parts say of its table.
use Rattle.std.proofs.Common.{◌≡◌, ◌≢◌, ℕ, zero, suc, ◌+◌, ◌*◌, ◌/◌, ◌%◌, ◌^◌, ◌<◌, ◌≤◌, Option, None, List, [], ◌∷◌, length, refl, sym, ◌∙◌, ap, arith, lit<, lit≤, inl, inr, ⊎_elim, slice_get, div-add-mod', mul_comm, mul-div_cancel}
use Rattle.std.specs.Coded.{le_prop}
use native.Mathlib.Nat.{ℕ_set}
use mathlib.Core.Path.{PathP}
use mathlib.Core.HLevel.{is_prop→PathP}
use Rattle.std.proofs.lemmas.Bool.{cases_eq}
use Rattle.std.proofs.Math.Nat.{mul-mod_left}
use Rattle.grid_base.specs.declared.order.Order.{Order}
use Rattle.grid_base.specs.declared.order.Order.TheVariants.{RowMajor, ColumnMajor}
use Rattle.grid_base.specs.declared.words.Symmetry.{Symmetry}
use Rattle.grid_base.specs.declared.words.Symmetry.TheVariants.{Transpose}
use Rattle.grid_base.specs.Table.{row_count, col_count, cell, IsSize, IsTable, tabulate}
use Rattle.grid_base.specs.Order.{storage, place, flipped, table_of, CanCut}
use Rattle.grid_base.specs.GridValue.{GridValue, HoldsSize, FitsUsize}
use Rattle.grid_base.specs.Symmetry.{act, image_rows, image_cols, source_row, source_col}
use Rattle.grid_base.proofs.TableLemmas.{zero_by, tabulate-cells, IsSize-table, rows-tabulate, cols-tabulate, tabulate-same, IsFull, IsTable-tabulate, cell_past_rows, cell_past_cols}
use Rattle.grid_base.proofs.ActLemmas.{act-tabulate, IsFull-image}
use Rattle.grid_base.proofs.StorageLemmas.{length-storage, get-storage, IsFull-table_of, cell-table_of, storage-table_of}

-- the sides of a size are no more than its cells, and together one more at most
sides_within : (m n : ℕ) → 0 < m → 0 < n → m + n ≤ m * n + 1
sides_within zero n some wide = omega arith
sides_within (suc zero) n some wide = omega arith
sides_within (suc (suc m)) n some wide = omega (arith, sides_within (suc m) n (omega arith) wide)

-- so a `usize` counts them where it counts the cells
pub FitsUsize-size : (m n : ℕ) → IsSize m n → m * n < 2 ^ 64 → FitsUsize m n
FitsUsize-size zero zero size below = record { rows = lit< tt; cols = lit< tt; cells = below; sides = lit≤ tt }
FitsUsize-size zero (suc n) size below = absurd (omega (arith, size.has_rows (omega arith)))
FitsUsize-size (suc m) zero size below = absurd (omega (arith, size.has_cols (omega arith)))
FitsUsize-size (suc m) (suc n) size below =
    let within = sides_within (suc m) (suc n) (omega arith) (omega arith) in
    record { rows = omega arith; cols = omega arith; cells = below; sides = omega arith }

pub FitsUsize-tabulate : {T : Type 0} (m n : ℕ) (f : ℕ → ℕ → Option T) → IsSize m n → m * n < 2 ^ 64 → IsFull m n f → FitsUsize (row_count (tabulate m n f)) (col_count (tabulate m n f))
FitsUsize-tabulate m n f size below full =
    rw (rows-tabulate m n f, cols-tabulate m n f size full) (FitsUsize-size m n size below)

module _ {T : Type 0} (o : Order) (m n : ℕ) (cells : List T) (h : HoldsSize m n (length cells)) where
  full : IsFull m n (λ r c. slice_get cells (place o m n r c))
  full = IsFull-table_of o m n cells h.cells

  pub view-rows : row_count (table_of o m n cells) ≡ m
  view-rows = rows-tabulate m n _

  pub view-cols : col_count (table_of o m n cells) ≡ n
  view-cols = cols-tabulate m n _ h.size full

  pub view-table : IsTable (table_of o m n cells)
  view-table = IsTable-tabulate m n _ h.size full

  pub view-fits : FitsUsize (row_count (table_of o m n cells)) (col_count (table_of o m n cells))
  view-fits = FitsUsize-tabulate m n _ h.size h.below full

  pub view-cell : (r c : ℕ) → r < m → c < n → cell (table_of o m n cells) r c ≡ slice_get cells (place o m n r c)
  view-cell r c lr lc = cell-table_of o m n cells h.cells r c lr lc

  pub view-past_cols : (r c : ℕ) → r < m → n ≤ c → cell (table_of o m n cells) r c ≡ None
  view-past_cols r c lr lc = cell_past_cols m n _ r c full lr lc

  pub view-past_rows : (r c : ℕ) → m ≤ r → cell (table_of o m n cells) r c ≡ None
  view-past_rows r c lr = cell_past_rows (table_of o m n cells) r c (omega (arith, view-rows))

  pub view-storage : storage o (table_of o m n cells) ≡ cells
  view-storage = storage-table_of o m n cells h.size h.cells

  -- a table whose cells are where the formula says is the image
  pub view-act : (s : Symmetry) (u : Order) (news : List T) → ((i j : ℕ) → i < image_rows s m n → j < image_cols s m n → slice_get news (place u (image_rows s m n) (image_cols s m n) i j) ≡ slice_get cells (place o m n (source_row s m n i j) (source_col s m n i j))) → table_of u (image_rows s m n) (image_cols s m n) news ≡ act s (table_of o m n cells)
  view-act s u news same =
      tabulate-same _ _ _ _ same (IsFull-image s m n _ full) ∙ sym (act-tabulate s m n _ h.size full)

  pub view-transpose : table_of (flipped o) n m cells ≡ act Transpose (table_of o m n cells)
  view-transpose = view-act Transpose (flipped o) cells (λ i j p q. by_order o i j)
    where
      by_order : (o : Order) (i j : ℕ) → slice_get cells (place (flipped o) n m i j) ≡ slice_get cells (place o m n j i)
      by_order RowMajor i j = refl
      by_order ColumnMajor i j = refl

-- no rows
pub table_of-none : {T : Type 0} (o : Order) (cells : List T) → table_of o 0 0 cells ≡ []
unfolding tabulate
table_of-none o cells = refl

-- the size of no cells, and of cells that are cut into rows
pub HoldsSize-none : (len : ℕ) → len ≡ 0 → HoldsSize 0 0 len
HoldsSize-none len e = record { cells = omega arith; below = lit< tt; size = record { has_cols = λ h. h; has_rows = λ h. h } }

pub HoldsSize-cut : (len cols : ℕ) → len ≢ 0 → cols ≢ 0 → len % cols ≡ 0 → len < 2 ^ 64 → HoldsSize (len / cols) cols len
HoldsSize-cut len cols some wide even small =
    let whole = div-add-mod' len cols in
    let there : len / cols ≢ 0 = λ e. some (omega (arith, ap (λ x. x * cols) e)) in
    record {
      cells = omega arith;
      below = omega arith;
      size = record { has_cols = λ _. omega arith; has_rows = λ _. omega (arith, there) };
    }

-- the size of the transposed table
pub HoldsSize-transposed : (m n len : ℕ) → HoldsSize m n len → HoldsSize n m len
HoldsSize-transposed m n len h =
    record {
      cells = h.cells ∙ mul_comm m n;
      below = rw (mul_comm n m) h.below;
      size = record { has_cols = h.size.has_rows; has_rows = h.size.has_cols };
    }

-- a table is what is cut from its storage
pub by_storage : {T : Type 0} (o : Order) (t : List (List T)) → IsTable t → t ≡ table_of o (row_count t) (col_count t) (storage o t)
by_storage o t h =
    sym (tabulate-cells t h)
    ∙ tabulate-same (row_count t) (col_count t) (cell t) (λ r c. slice_get (storage o t) (place o (row_count t) (col_count t) r c))
    (λ r c p q. sym (get-storage o t r c h p q)) (IsFull-table_of o (row_count t) (col_count t) (storage o t) (length-storage o t h))

rows_by_cells : (m k n : ℕ) → (0 < m → 0 < n) → (0 < k → 0 < n) → m * n ≡ k * n → m ≡ k
rows_by_cells m k zero p q e = sym (zero_by m p) ∙ zero_by k q
rows_by_cells m k (suc n) p q e =
    let some : 0 < suc n = omega arith in
    sym (mul-div_cancel m {n = suc n} some) ∙ (ap (λ x. x / suc n) e ∙ mul-div_cancel k {n = suc n} some)

-- two tables of one storage and one number of columns are one
pub same_by_storage : {T : Type 0} (o : Order) (t u : List (List T)) → IsTable t → IsTable u → col_count t ≡ col_count u → storage o t ≡ storage o u → t ≡ u
same_by_storage o t u h k cols same =
    let product : row_count t * col_count t ≡ row_count u * col_count u = sym (length-storage o t h) ∙ (ap length same ∙ length-storage o u k) in
    let rows : row_count t ≡ row_count u =
    rows_by_cells (row_count t) (row_count u) (col_count t) (IsSize-table t h).has_cols (rw cols (IsSize-table u k).has_cols)
    (product ∙ ap (λ n. row_count u * n) (sym cols)) in
    by_storage o t h
    ∙ (ap (λ m. table_of o m (col_count t) (storage o t)) rows
    ∙ (ap (λ n. table_of o (row_count u) n (storage o t)) cols ∙ (ap (table_of o (row_count u) (col_count u)) same ∙ sym (by_storage o u k))))

-- the storage of a table can be cut into rows of its length
pub CanCut-storage : {T : Type 0} (o : Order) (t : List (List T)) → IsTable t → CanCut (length (storage o t)) (col_count t)
CanCut-storage o t h =
    ⊎_elim (λ none. inl (length-storage o t h ∙ (ap (λ n. row_count t * n) none ∙ omega arith)))
    (λ some. inr (some, ap (λ x. x % col_count t) (length-storage o t h) ∙ mul-mod_left (row_count t) (col_count t)))
    (cases_eq (col_count t) 0)

-- no cells, no rows
pub none_by_storage : {T : Type 0} (o : Order) (t : List (List T)) → IsTable t → length (storage o t) ≡ 0 → t ≡ []
none_by_storage o [] h e = refl
none_by_storage o (r ∷ t) h e =
    let some : 0 < col_count (r ∷ t) = h.nonempty 0 (omega arith) in
    absurd (omega (arith, length-storage o (r ∷ t) h, some))

pub flipped-flipped : (o : Order) → flipped (flipped o) ≡ o
flipped-flipped RowMajor = refl
flipped-flipped ColumnMajor = refl

pub IsTable-prop : {T : Type 0} (t : List (List T)) → IsProp (IsTable t)
IsTable-prop t = hlevel (le_prop, ℕ_set)

pub FitsUsize-prop : (m n : ℕ) → IsProp (FitsUsize m n)
FitsUsize-prop m n = hlevel (le_prop, ℕ_set)

pub same_grid_value : {T : Type 0} (s u : GridValue T) → s.rows ≡ u.rows → s.order ≡ u.order → s ≡ u
same_grid_value s u rows order =
    let table : PathP (λ i. IsTable (rows i)) s.table u.table = is_prop→PathP (λ i. IsTable (rows i)) (λ i. IsTable-prop (rows i)) s.table u.table in
    let fits : PathP (λ i. FitsUsize (row_count (rows i)) (col_count (rows i))) s.fits u.fits =
    is_prop→PathP (λ i. FitsUsize (row_count (rows i)) (col_count (rows i))) (λ i. FitsUsize-prop (row_count (rows i)) (col_count (rows i))) s.fits u.fits in
    λ i. record { rows = rows i; order = order i; table = table i; fits = fits i }

-- a table's size holds another table of as many cells
pub IsTable-recut : {T : Type 0} (o : Order) (t : List (List T)) (cells : List T) → IsTable t → length cells ≡ length (storage o t) → IsTable (table_of o (row_count t) (col_count t) cells)
IsTable-recut o t cells h e =
    IsTable-tabulate _ _ _ (IsSize-table t h) (IsFull-table_of o (row_count t) (col_count t) cells (e ∙ length-storage o t h))

pub FitsUsize-recut : {T : Type 0} (o : Order) (t : List (List T)) (cells : List T) → IsTable t → FitsUsize (row_count t) (col_count t) → length cells ≡ length (storage o t) → FitsUsize (row_count (table_of o (row_count t) (col_count t) cells)) (col_count (table_of o (row_count t) (col_count t) cells))
FitsUsize-recut o t cells h fits e =
    view-fits o (row_count t) (col_count t) cells (record { cells = e ∙ length-storage o t h; below = fits.cells; size = IsSize-table t h })
