-- Cells that are joined, and cut into rows.
use Rattle.std.proofs.Common.{◌≡◌, ◌≢◌, ℕ, suc, ◌+◌, ◌*◌, ◌<◌, ◌==◌, if◌then◌else◌, Bool, true, false, IsTrue, List, [], ◌∷◌, ◌++◌, length, get_or, take, map, Result, Ok, Err, refl, sym, ◌∙◌, ap, arith, ⊎_elim, subst, IsErrAnd, append-nil, eqb-true}
use Rattle.grid.proofs.Common.{AllZip, take_more, map-append, get_or-map, flat_map-append, cases_eq, row, row_count, col_count, concat_rows, IsTable, storage, CanCut, GridValue, length-concat_rows, same_by_storage, none_by_storage, HasShape, AreEven, CanJoin, equal_rows, CutAnswer}
use Rattle.grid_base.specs.declared.order.Order.TheVariants.{RowMajor}
use Rattle.grid_commands.specs.declared.error.ShapeError.{ShapeError}
use Rattle.grid_commands.specs.declared.error.ShapeError.TheVariants.{Memory}
use Rattle.grid.proofs.MadeLemmas.{CanCut-cells}

-- a test that failed refuses what it is true of
pub refused : (len k cols : ℕ) (b : Bool) → k ≡ len → (CanCut k cols → IsTrue b) → b ≡ false → CanCut len cols → ⊥
refused len k cols b e f failed h =
    let P : ℕ → Type 0 = λ x. CanCut x cols in
    let passed : b ≡ true = f (subst P (sym e) h) in
    let both : false ≡ true = sym failed ∙ passed in
    cc

pub CanCut-same : (k len cols : ℕ) → k ≡ len → CanCut k cols → CanCut len cols
CanCut-same k len cols e h = let P : ℕ → Type 0 = λ x. CanCut x cols in subst P e h

-- a failed allocation, where it may come
pub cut_memory : {T : Type 0} (memory : Type 0) (cells : List T) (n : ℕ) (P : List T → Type 0) (r : Result (GridValue T) ShapeError) → memory → IsErrAnd r (λ e. e ≡ Memory) → CutAnswer memory cells n P r
cut_memory memory cells n P (Ok x) h e = absurd e
cut_memory memory cells n P (Err x) h e = rw e h

-- cells that were cut have the shape
pub cut_shape : {T : Type 0} (cells : List T) (len n : ℕ) (g : GridValue T) → g.order ≡ RowMajor → storage RowMajor g.rows ≡ cells → (length cells ≢ 0 → col_count g.rows ≡ n) → length cells ≡ len → HasShape len n g
cut_shape cells len n g order stored cols count = record {
  order = order;
  count = ap length stored ∙ count;
  cols = λ some. cols (λ none. some (sym count ∙ none));
}

-- one row of rows that are seen through f
pub row-map : {L T : Type 0} (f : L → List T) (rows : List L) (k : ℕ) (x : L) → k < length rows → x ≡ get_or rows k x → row (map f rows) k ≡ f x
row-map f rows k x lt is = get_or-map f rows k x [] lt ∙ ap f (sym is)

pub concat_rows_more : {L T : Type 0} (f : L → List T) (rows : List L) (i : ℕ) (x : L) → i < length rows → x ≡ get_or rows i x → concat_rows (map f (take (i + 1) rows)) ≡ concat_rows (map f (take i rows)) ++ f x
concat_rows_more f rows i x lt is = rw (take_more rows i x lt, ← is, map-append, flat_map-append, append-nil)

pub AllZip-concat_rows : {A B : Type 0} (R : A → B → Type 0) (xs us : List A) (ys vs : List B) → AllZip R xs ys → AllZip R us vs → AllZip R (xs ++ us) (ys ++ vs)
AllZip-concat_rows R [] us [] vs a b = b
AllZip-concat_rows R [] us (y ∷ ys) vs a b = absurd a
AllZip-concat_rows R (x ∷ xs) us [] vs a b = absurd a
AllZip-concat_rows R (x ∷ xs) us (y ∷ ys) vs a b = (a.0, AllZip-concat_rows R xs us ys vs a.1 b)

-- how many cells even rows have
pub length-even : {T : Type 0} (rows : List (List T)) → AreEven rows → length (concat_rows rows) ≡ row_count rows * col_count rows
length-even rows even = length-concat_rows rows (col_count rows) even

kept : {T : Type 0} (rows : List (List T)) (n : ℕ) → n ≢ 0 → (if n == 0 then [] else rows) ≡ rows
kept {T} rows n some = by_test (n == 0) refl
  where
    by_test : (b : Bool) → (n == 0) ≡ b → (if n == 0 then [] else rows) ≡ rows
    by_test true e = absurd (some (eqb-true n 0 e))
    by_test false e = ap (λ x. if x then [] else rows) e

-- a table of the cells of even rows is those rows
pub equal_rows_are : {T : Type 0} (rows t : List (List T)) → AreEven rows → IsTable t → concat_rows t ≡ concat_rows rows → (length (concat_rows rows) ≢ 0 → col_count t ≡ col_count rows) → t ≡ equal_rows rows
equal_rows_are {T} rows t even table same cols =
    ⊎_elim (λ none.
    let zeros : row_count rows * col_count rows ≡ 0 = ap (λ x. row_count rows * x) none ∙ omega arith in
    let no_cells : length (concat_rows t) ≡ 0 = ap length same ∙ (length-even rows even ∙ zeros) in
    none_by_storage RowMajor t table no_cells ∙ sym (ap (λ x. if x == 0 then [] else rows) none))
    (λ some. by_rows rows even same cols some ∙ sym (kept rows (col_count rows) some))
    (cases_eq (col_count rows) 0)
  where
    by_rows : (rows : List (List T)) → AreEven rows → concat_rows t ≡ concat_rows rows → (length (concat_rows rows) ≢ 0 → col_count t ≡ col_count rows) → col_count rows ≢ 0 → t ≡ rows
    by_rows [] even same cols some = absurd (some refl)
    by_rows (x ∷ xs) even same cols some =
        let whole : IsTable (x ∷ xs) = record { nonempty = λ r lt. omega (arith, even r lt); even = even } in
        let count = length-even (x ∷ xs) even in
        let cells : length (concat_rows (x ∷ xs)) ≢ 0 = λ none. some (first_zero (length xs) (col_count (x ∷ xs)) (sym count ∙ none)) in
        same_by_storage RowMajor t (x ∷ xs) table whole (cols cells) same
      where
        first_zero : (k n : ℕ) → suc k * n ≡ 0 → n ≡ 0
        first_zero k n e = omega arith

-- the cells of even rows, in any form, can be cut into rows of their length
pub CanCut-rows : {T : Type 0} (rows : List (List T)) (len n : ℕ) → CanJoin rows → n ≡ col_count rows → len ≡ length (concat_rows rows) → CanCut len n
CanCut-rows rows len n join width count =
    CanCut-cells len (row_count rows) n (count ∙ (length-even rows join.even ∙ ap (λ x. row_count rows * x) (sym width)))

-- a grid that is cut from such cells
module _ {T : Type 0} (rows : List (List T)) (cells : List T) (n : ℕ) (g : GridValue T) (join : CanJoin rows) (width : n ≡ col_count rows) (stored : storage RowMajor g.rows ≡ cells) (cols : length cells ≢ 0 → col_count g.rows ≡ n) where
  pub rows_shape : g.order ≡ RowMajor → length cells ≡ length (concat_rows rows) → HasShape (length (concat_rows rows)) (col_count rows) g
  rows_shape order count = cut_shape cells (length (concat_rows rows)) (col_count rows) g order stored (λ some. cols some ∙ width) count

  pub rows_equal : cells ≡ concat_rows rows → g.rows ≡ equal_rows rows
  rows_equal same =
      equal_rows_are rows g.rows join.even g.table (stored ∙ same) (λ some. cols (λ none. some (sym (ap length same) ∙ none)) ∙ width)
