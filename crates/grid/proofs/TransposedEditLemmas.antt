-- A column edit as the row edit between two transposes.
use Rattle.std.proofs.Common.{◌≡◌, ◌<◌, ◌≤◌, ℕ, List, length, refl, sym, ◌∙◌, ap, arith, inl, inr, ⊎_elim, Bool, true, false, IsTrue, ◌↔◌, ◌+◌, if◌then◌else◌, Result, Ok, Err, OnErr, insert, remove}
use Rattle.grid.proofs.Common.{cases_lt, row_count, col_count, IsTable, flipped, GridValue, act, same_grid_value, flipped-flipped, rows-act, FitsRow, FitsCol, insert_rows, insert_col, insert_cols, without_rows, without_cols}
use Rattle.grid.proofs.NoneTakenLemmas.{remove-past, without_cols-past}
use Rattle.grid_base.specs.declared.words.Symmetry.TheVariants.{Transpose}
use Rattle.grid.proofs.EditViewLemmas.{put_line, take_line}
use Rattle.grid.proofs.ColEditLemmas.{across-none, across-across, cols-across, insert_col-across, insert_cols-across, without_cols-across, ColumnFits, ColumnsFit}

-- a fact that holds anyway holds for the outcome
pub either_way : {V E : Type 0} (r : Result V E) {P : Type 0} → P → OnErr r P
either_way (Ok v) h = tt
either_way (Err e) h = h

module _ {T : Type 0} where
  -- a column that fits a table fits the transposed table as a row
  pub fits_across : (t : List (List T)) (w : ℕ) → IsTable t → FitsCol t w → FitsRow (act Transpose t) w
  fits_across t w h f =
      ⊎_elim {C = FitsRow (act Transpose t) w} (λ none. inl (ap (act Transpose) none ∙ across-none)) (λ tall. inr (tall ∙ sym (cols-across t h))) f

  column_fits : (i : ℕ) (line : List T) (t : List (List T)) → IsTable t → FitsCol t (length line) → 0 < length line → i ≤ col_count t → ColumnFits i line t
  column_fits i line t h f some le =
      record {
        is_table = h;
        in_cols = le;
        height = λ rows. ⊎_elim {C = length line ≡ row_count t} (λ none. absurd (omega (arith, ap length none))) (λ tall. tall) f;
        nonempty = some;
      }

  -- a row put between two transposes is a column
  pub col_inserted : (i : ℕ) (line : List T) (t mid grown new : List (List T)) → IsTable t → FitsCol t (length line) → 0 < length line → i ≤ col_count t → mid ≡ act Transpose t → new ≡ act Transpose grown → grown ≡ insert mid i line → new ≡ insert_col i line t
  col_inserted i line t mid grown new h f some le transposed back put =
      back
      ∙ (ap (act Transpose) (put ∙ (ap (λ v. insert v i line) transposed ∙ sym (put_line i line (act Transpose t))))
      ∙ sym (insert_col-across i line t (column_fits i line t h f some le)))

  -- rows put between two transposes are columns
  pub cols_inserted : (i : ℕ) (lines t mid grown new : List (List T)) → IsTable t → IsTable lines → (0 < row_count lines → FitsCol t (col_count lines)) → i ≤ col_count t → mid ≡ act Transpose t → new ≡ act Transpose grown → grown ≡ insert_rows i lines mid → new ≡ insert_cols i lines t
  cols_inserted i lines t mid grown new h table f le transposed back put =
      let fit : ColumnsFit i lines t =
      record {
        in_cols = le;
        old = h;
        new = table;
        height = λ rows some. ⊎_elim {C = col_count lines ≡ row_count t} (λ none. absurd (omega (arith, ap length none))) (λ tall. tall) (f some);
      } in
      back ∙ (ap (act Transpose) (put ∙ ap (insert_rows i lines) transposed) ∙ sym (insert_cols-across i lines t fit))

  -- two transposes with nothing between them
  pub twice_across : (old mid late new : GridValue T) → IsTable old.rows → mid.rows ≡ act Transpose old.rows → mid.order ≡ flipped old.order → late ≡ mid → new.rows ≡ act Transpose late.rows → new.order ≡ flipped late.order → new ≡ old
  twice_across old mid late new h rows order same rows_back order_back =
      same_grid_value new old
      (rows_back ∙ (ap (λ s. act Transpose s.rows) same ∙ (ap (act Transpose) rows ∙ across-across old.rows h)))
      (order_back ∙ (ap (λ s. flipped s.order) same ∙ (ap flipped order ∙ flipped-flipped old.order)))

  -- rows taken between two transposes are columns
  pub cols_taken : (i k : ℕ) (found : Bool) (t mid less new : List (List T)) → IsTable t → IsTrue found ↔ (i + k ≤ col_count t) → mid ≡ act Transpose t → new ≡ act Transpose less → less ≡ (if found then without_rows i k mid else mid) → new ≡ (if found then without_cols i k t else t)
  cols_taken i k true t mid less new h tests transposed back taken =
      back ∙ (ap (act Transpose) (taken ∙ ap (without_rows i k) transposed) ∙ sym (without_cols-across i k t h (tests.0 refl)))
  cols_taken i k false t mid less new h tests transposed back taken =
      back ∙ (ap (act Transpose) (taken ∙ transposed) ∙ across-across t h)

  -- a row taken between two transposes is a column
  pub col_removed : (i : ℕ) (t mid less new : List (List T)) → IsTable t → mid ≡ act Transpose t → new ≡ act Transpose less → less ≡ remove mid i → new ≡ without_cols i 1 t
  col_removed i t mid less new h transposed back taken =
      let direct : new ≡ act Transpose (remove (act Transpose t) i) = back ∙ ap (act Transpose) (taken ∙ ap (λ v. remove v i) transposed) in
      ⊎_elim {C = new ≡ without_cols i 1 t}
      (λ inside. direct ∙ (ap (act Transpose) (sym (take_line i (act Transpose t))) ∙ sym (without_cols-across i 1 t h (omega arith))))
      (λ past.
      direct
      ∙ (ap (act Transpose) (remove-past i (act Transpose t) (omega (arith, rows-act Transpose t, past)))
      ∙ (across-across t h ∙ sym (without_cols-past i 1 t h past))))
      (cases_lt i (col_count t))
