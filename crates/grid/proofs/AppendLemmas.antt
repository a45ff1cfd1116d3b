-- Rows that are appended to those of a grid.
use Rattle.std.proofs.Common.{◌≡◌, ◌++◌, [], ◌∷◌, ℕ, List, take, drop, length, refl, sym, ◌∙◌, ap, arith, ⊎_elim, take_all, append-nil}
use Rattle.grid.proofs.Common.{drop_all, row_count, col_count, storage, table_of, GridValue, FitsRow, insert_rows, by_storage}

-- rows put after the last one
pub put_last : {T : Type 0} (i : ℕ) (lines t : List (List T)) → i ≡ row_count t → insert_rows i lines t ≡ t ++ lines
put_last i lines t e =
    let front : take i t ≡ t = take_all i t (omega (arith, e)) in
    let back : drop i t ≡ [] = drop_all i t (omega (arith, e)) in
    ap (λ v. v ++ lines ++ drop i t) front ∙ (ap (λ v. t ++ lines ++ v) back ∙ append-nil (t ++ lines))

-- the rows of another grid of the same order, which are cut from its cells
pub rows_appended : {T : Type 0} (i m n : ℕ) (cells : List T) (s t : GridValue T) → i ≡ row_count s.rows → m ≡ row_count t.rows → n ≡ col_count t.rows → t.order ≡ s.order → cells ≡ storage t.order t.rows → insert_rows i (table_of s.order m n cells) s.rows ≡ s.rows ++ t.rows
rows_appended i m n cells s t last rows cols order e =
    let cut : table_of s.order m n cells ≡ table_of t.order (row_count t.rows) (col_count t.rows) (storage t.order t.rows) = rw (rows, cols, e, sym order) refl in
    ap (λ v. insert_rows i v s.rows) (cut ∙ sym (by_storage t.order t.rows t.table)) ∙ put_last i t.rows s.rows last

-- their number of columns
pub cols_appended : {T : Type 0} (s t : List (List T)) → FitsRow s (col_count t) → col_count (s ++ t) ≡ col_count t
cols_appended [] t f = refl
cols_appended (r ∷ s) t f = ⊎_elim (λ none. absurd (omega (arith, ap length none))) (λ wide. sym wide) f
