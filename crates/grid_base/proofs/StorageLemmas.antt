-- A table and its cells in storage order.
use Rattle.std.proofs.Common.{◌≡◌, ℕ, zero, suc, ◌+◌, ◌*◌, ◌/◌, ◌%◌, ◌<◌, Some, List, [], ◌∷◌, ◌++◌, length, take, drop, replicate, refl, sym, ◌∙◌, ap, arith, length-append, slice_get, div-add-mod', mul_comm}
use Rattle.std.proofs.lemmas.Nat.{mul-add-lt, div_below, mod_below}
use Rattle.grid_base.specs.declared.order.Order.{Order}
use Rattle.grid_base.specs.declared.order.Order.TheVariants.{RowMajor, ColumnMajor}
use Rattle.grid_base.specs.Table.{row, row_count, col_count, cell, IsTable, IsSize, concat_rows, transposed}
use Rattle.grid_base.specs.Order.{storage, place, table_of}
use Rattle.grid_base.proofs.TableLemmas.{rows-tabulate, cols-tabulate, cell-tabulate, width-tabulate, IsFull, IsTable-tabulate, IsFull-cells, same_cells, IsSome_within}

pub get_append_left : {T : Type 0} (xs ys : List T) (k : ℕ) → k < length xs → slice_get (xs ++ ys) k ≡ slice_get xs k
get_append_left [] ys k lt = absurd (omega arith)
get_append_left (x ∷ xs) ys zero lt = refl
get_append_left (x ∷ xs) ys (suc k) lt = get_append_left xs ys k (omega arith)

pub get_append_right : {T : Type 0} (xs ys : List T) (k j : ℕ) → length xs + j ≡ k → slice_get (xs ++ ys) k ≡ slice_get ys j
get_append_right [] ys k j e = let same : k ≡ j = omega arith in ap (slice_get ys) same
get_append_right (x ∷ xs) ys zero j e = absurd (omega arith)
get_append_right (x ∷ xs) ys (suc k) j e = get_append_right xs ys k j (omega arith)

pub get-take : {T : Type 0} (n : ℕ) (xs : List T) (k : ℕ) → k < n → slice_get (take n xs) k ≡ slice_get xs k
get-take zero xs k lt = absurd (omega arith)
get-take (suc n) [] k lt = refl
get-take (suc n) (x ∷ xs) zero lt = refl
get-take (suc n) (x ∷ xs) (suc k) lt = get-take n xs k (omega arith)

pub get-drop : {T : Type 0} (n : ℕ) (xs : List T) (k j : ℕ) → n + j ≡ k → slice_get (drop n xs) j ≡ slice_get xs k
get-drop zero xs k j e = let same : j ≡ k = omega arith in ap (slice_get xs) same
get-drop (suc n) [] k j e = refl
get-drop (suc n) (x ∷ xs) zero j e = absurd (omega arith)
get-drop (suc n) (x ∷ xs) (suc k) j e = get-drop n xs k j (omega arith)

pub get-replicate : {T : Type 0} (k : ℕ) (d : T) (j : ℕ) → j < k → slice_get (replicate k d) j ≡ Some d
get-replicate zero d j lt = absurd (omega arith)
get-replicate (suc k) d zero lt = refl
get-replicate (suc k) d (suc j) lt = get-replicate k d j (omega arith)

-- lines of one length, joined
pub length-concat_rows : {T : Type 0} (t : List (List T)) (n : ℕ) → ((r : ℕ) → r < length t → length (row t r) ≡ n) → length (concat_rows t) ≡ length t * n
length-concat_rows [] n h = omega arith
length-concat_rows (x ∷ t) n h =
    let first : length x ≡ n = h 0 (omega arith) in
    let rest : length (concat_rows t) ≡ length t * n = length-concat_rows t n (λ r lt. h (suc r) (omega arith)) in
    omega (arith, length-append x (concat_rows t))

pub get-concat_rows : {T : Type 0} (t : List (List T)) (n r c : ℕ) → ((r : ℕ) → r < length t → length (row t r) ≡ n) → r < length t → c < n → slice_get (concat_rows t) (r * n + c) ≡ cell t r c
get-concat_rows [] n r c h lr lc = absurd (omega arith)
get-concat_rows (x ∷ t) n zero c h lr lc =
    let first : length x ≡ n = h 0 (omega arith) in
    let same : 0 * n + c ≡ c = omega arith in
    ap (slice_get (x ++ concat_rows t)) same ∙ get_append_left x (concat_rows t) c (omega arith)
get-concat_rows (x ∷ t) n (suc r) c h lr lc =
    let first : length x ≡ n = h 0 (omega arith) in
    get_append_right x (concat_rows t) (suc r * n + c) (r * n + c) (omega arith)
    ∙ get-concat_rows t n r c (λ r lt. h (suc r) (omega arith)) (omega arith) lc

-- the number of cells, and where each is
pub length-storage : {T : Type 0} (o : Order) (t : List (List T)) → IsTable t → length (storage o t) ≡ row_count t * col_count t
length-storage RowMajor t h = length-concat_rows t (col_count t) h.even
length-storage ColumnMajor t h =
    let full : IsFull (col_count t) (row_count t) (λ c r. cell t r c) = record { full = λ c r lc lr. (IsFull-cells t h).full r c lr lc } in
    let rows = rows-tabulate (col_count t) (row_count t) (λ c r. cell t r c) in
    let l : length (concat_rows (transposed t)) ≡ length (transposed t) * row_count t = length-concat_rows (transposed t) (row_count t) (λ c lt. width-tabulate _ _ _ c full (omega arith)) in
    omega (arith, ap (λ k. k * row_count t) rows)

pub get-storage : {T : Type 0} (o : Order) (t : List (List T)) (r c : ℕ) → IsTable t → r < row_count t → c < col_count t → slice_get (storage o t) (place o (row_count t) (col_count t) r c) ≡ cell t r c
get-storage RowMajor t r c h lr lc = get-concat_rows t (col_count t) r c h.even lr lc
get-storage ColumnMajor t r c h lr lc =
    let full : IsFull (col_count t) (row_count t) (λ c r. cell t r c) = record { full = λ c r lc lr. (IsFull-cells t h).full r c lr lc } in
    let rows = rows-tabulate (col_count t) (row_count t) (λ c r. cell t r c) in
    get-concat_rows (transposed t) (row_count t) c r (λ c lt. width-tabulate _ _ _ c full (omega arith)) (omega arith) lr
    ∙ cell-tabulate _ _ _ c r full lc lr

-- each place of the storage is that of a cell
pub place_within : (o : Order) (m n r c : ℕ) → r < m → c < n → place o m n r c < m * n
place_within RowMajor m n r c lr lc = omega (arith, mul-add-lt r n c m lr lc)
place_within ColumnMajor m n r c lr lc = omega (arith, mul-add-lt c m r n lc lr)

-- a table of m rows and n columns that is cut from its cells
module _ {T : Type 0} (o : Order) (m n : ℕ) (cells : List T) (e : length cells ≡ m * n) where
  pub IsFull-table_of : IsFull m n (λ r c. slice_get cells (place o m n r c))
  IsFull-table_of = record { full = λ r c lr lc. IsSome_within cells _ (omega (arith, place_within o m n r c lr lc)) }

  pub width-table_of : (r : ℕ) → r < m → length (row (table_of o m n cells) r) ≡ n
  width-table_of r lr = width-tabulate m n _ r IsFull-table_of lr

  pub cell-table_of : (r c : ℕ) → r < m → c < n → cell (table_of o m n cells) r c ≡ slice_get cells (place o m n r c)
  cell-table_of r c lr lc = cell-tabulate m n _ r c IsFull-table_of lr lc

-- each place below m * n is the place of one cell
pub record HasPlace (o : Order) (m n k : ℕ) : Type 0 where
  pub r : ℕ
  pub c : ℕ
  pub lr : r < m
  pub lc : c < n
  pub is : place o m n r c ≡ k

cut_at : (m n k : ℕ) → k < m * n → (0 < n) × (k / n < m) × (k % n < n) × (k / n * n + k % n ≡ k)
cut_at m zero k lt = absurd (omega arith)
cut_at m (suc n) k lt = (omega arith, div_below k (suc n) m (omega arith) lt, mod_below k (suc n) (omega arith), div-add-mod' k (suc n))

pub has_place : (o : Order) (m n k : ℕ) → k < m * n → HasPlace o m n k
has_place RowMajor m n k lt = let p = cut_at m n k lt in record { r = k / n; c = k % n; lr = p.1; lc = p.2; is = p.3 }
has_place ColumnMajor m n k lt =
    let p = cut_at n m k (omega (arith, mul_comm m n)) in record { r = k % m; c = k / m; lr = p.2; lc = p.1; is = p.3 }

storage_at : {T : Type 0} (o : Order) (t : List (List T)) (m n r c k : ℕ) → IsTable t → row_count t ≡ m → col_count t ≡ n → r < m → c < n → place o m n r c ≡ k → slice_get (storage o t) k ≡ cell t r c
storage_at o t m n r c k h em en lr lc e =
    let at : slice_get (storage o t) (place o (row_count t) (col_count t) r c) ≡ cell t r c = get-storage o t r c h (omega arith) (omega arith) in
    let same : place o (row_count t) (col_count t) r c ≡ k = ap (λ x. place o x (col_count t) r c) em ∙ (ap (λ x. place o m x r c) en ∙ e) in
    ap (slice_get (storage o t)) (sym same) ∙ at

-- the storage of the table that is cut from cells is those cells
pub storage-table_of : {T : Type 0} (o : Order) (m n : ℕ) (cells : List T) → IsSize m n → length cells ≡ m * n → storage o (table_of o m n cells) ≡ cells
storage-table_of o m n cells z e =
    let t = table_of o m n cells in
    let full = IsFull-table_of o m n cells e in
    let em = rows-tabulate m n (λ r c. slice_get cells (place o m n r c)) in
    let en = cols-tabulate m n (λ r c. slice_get cells (place o m n r c)) z full in
    let h = IsTable-tabulate m n (λ r c. slice_get cells (place o m n r c)) z full in
    let len : length (storage o t) ≡ row_count t * col_count t = length-storage o t h in
    let prod : row_count t * col_count t ≡ m * n = ap (λ x. x * col_count t) em ∙ ap (λ x. m * x) en in
    same_cells (storage o t) cells (omega arith)
    (λ k lt.
    let p = has_place o m n k (omega arith) in
    storage_at o t m n p.r p.c k h em en p.lr p.lc p.is
    ∙ (cell-tabulate m n (λ r c. slice_get cells (place o m n r c)) p.r p.c full p.lr p.lc ∙ ap (slice_get cells) p.is))
