-- The sizes of tables into which rows are put, and from which rows are taken.
use Rattle.std.proofs.Common.{◌≡◌, ℕ, ◌+◌, ◌*◌, ◌^◌, ◌<◌, ◌≤◌, List, [], ◌∷◌, ◌++◌, length, take, drop, replicate, refl, sym, ◌∙◌, ap, subst, arith, ⊎_elim, take_all, append-nil, take-append-drop, mul-le-mul_right}
use Rattle.grid.proofs.Common.{length-replicate, get_or-replicate, nil_from_length, drop_all, cases_eq, row, row_count, col_count, IsTable, HoldsSize, insert_rows, without_rows, expanded_rows, prepended_rows}
use Rattle.grid.proofs.RowEditLemmas.{HasWidth, HasWidth-put, HasWidth-take, rows-put, rows-take}

module _ {T : Type 0} where
  pub IsTable-width : (t : List (List T)) (n : ℕ) → 0 < n → HasWidth t n → IsTable t
  IsTable-width t n some h =
      record {
        nonempty = λ r lt. omega (arith, h r lt);
        even = λ r lt. h r lt ∙ sym (h 0 (omega arith));
      }

  -- the rows of a table have the width that it says, or any if there are none
  pub HasWidth-table : (t : List (List T)) (n : ℕ) → IsTable t → (0 < row_count t → col_count t ≡ n) → HasWidth t n
  HasWidth-table t n h e r lt = h.even r lt ∙ e (omega arith)

  pub put-no_lines : (i : ℕ) (lines t : List (List T)) → row_count lines ≡ 0 → insert_rows i lines t ≡ t
  put-no_lines i lines t none =
      ap (λ v. take i t ++ v ++ drop i t) (nil_from_length lines none)
      ∙ (ap (λ v. v ++ drop i t) (append-nil (take i t)) ∙ take-append-drop i t)

  -- lines that fit between the rows of a table
  pub record LinesFit (i : ℕ) (lines t : List (List T)) : Type 0 where
    pub in_rows : i ≤ row_count t
    pub old : IsTable t
    pub new : IsTable lines
    pub width : 0 < row_count t → 0 < row_count lines → col_count lines ≡ col_count t

  module _ (i : ℕ) (lines t : List (List T)) (h : LinesFit i lines t) where
    widths_by_lines : 0 < row_count lines → HasWidth (insert_rows i lines t) (col_count lines)
    widths_by_lines some =
        HasWidth-put i lines t h.in_rows (col_count lines) (HasWidth-table t (col_count lines) h.old (λ e. sym (h.width e some))) h.new.even

    pub cols-put_lines : 0 < row_count lines → col_count (insert_rows i lines t) ≡ col_count lines
    cols-put_lines some = widths_by_lines some 0 (omega (arith, rows-put i lines t h.in_rows))

    pub IsTable-put : IsTable (insert_rows i lines t)
    IsTable-put =
        ⊎_elim (λ none. subst IsTable (sym (put-no_lines i lines t none)) h.old)
        (λ more. let e : 0 < row_count lines = omega arith in IsTable-width (insert_rows i lines t) (col_count lines) (h.new.nonempty 0 e) (widths_by_lines e))
        (cases_eq (row_count lines) 0)

  -- the size of a table from which rows are taken
  module _ (i k : ℕ) (t : List (List T)) (h : IsTable t) (in_rows : i + k ≤ row_count t) where
    pub cols-take : k < row_count t → col_count (without_rows i k t) ≡ col_count t
    cols-take some = HasWidth-take i k t in_rows (col_count t) h.even 0 (omega (arith, rows-take i k t in_rows))

    pub IsTable-take : IsTable (without_rows i k t)
    IsTable-take =
        let wide = HasWidth-take i k t in_rows (col_count t) h.even in
        record {
          nonempty = λ r lt. omega (arith, wide r lt, h.nonempty 0 (omega (arith, rows-take i k t in_rows)));
          even = λ r lt. wide r lt ∙ sym (wide 0 (omega arith));
        }

    -- all rows taken
    pub take_all_rows : k ≡ row_count t → without_rows i k t ≡ []
    take_all_rows e = nil_from_length (without_rows i k t) (omega (arith, rows-take i k t in_rows))

  -- k rows of n cells d
  abbrev pub copies : ℕ → ℕ → T → List (List T)
  copies k n d = replicate k (replicate n d)

  pub row-copies : (k n : ℕ) (d : T) (r : ℕ) → r < k → row (copies k n d) r ≡ replicate n d
  row-copies k n d r lt = get_or-replicate k r (replicate n d) [] lt

  pub HasWidth-copies : (k n : ℕ) (d : T) → HasWidth (copies k n d) n
  HasWidth-copies k n d r lt = ap length (row-copies k n d r (omega (arith, length-replicate k (replicate n d)))) ∙ length-replicate n d

  -- padding puts rows
  pub expanded-put : (k : ℕ) (d : T) (t : List (List T)) → 0 < row_count t → expanded_rows k d t ≡ insert_rows (row_count t) (copies k (col_count t) d) t
  expanded-put k d [] some = absurd (omega arith)
  expanded-put k d (r ∷ t) some =
      let news = copies k (length r) d in
      let front : take (length (r ∷ t)) (r ∷ t) ≡ r ∷ t = take_all (length (r ∷ t)) (r ∷ t) (omega arith) in
      let back : drop (length (r ∷ t)) (r ∷ t) ≡ [] = drop_all (length (r ∷ t)) (r ∷ t) (omega arith) in
      sym (ap (λ v. v ++ news ++ drop (length (r ∷ t)) (r ∷ t)) front ∙ (ap (λ v. (r ∷ t) ++ news ++ v) back ∙ append-nil ((r ∷ t) ++ news)))

  pub prepended-put : (k : ℕ) (d : T) (t : List (List T)) → 0 < row_count t → prepended_rows k d t ≡ insert_rows 0 (copies k (col_count t) d) t
  prepended-put k d [] some = absurd (omega arith)
  prepended-put k d (r ∷ t) some = refl

-- `len` cells fill m rows and n columns
pub HoldsSize-filled : (m n len : ℕ) → 0 < m → 0 < n → len ≡ m * n → len < 2 ^ 64 → HoldsSize m n len
HoldsSize-filled m n len rows cols e small =
    record { cells = e; below = omega arith; size = record { has_cols = λ _. cols; has_rows = λ _. rows } }

-- some of the rows
pub HoldsSize-fewer : (m n rest len part : ℕ) → HoldsSize m n len → 0 < rest → rest ≤ m → part ≡ rest * n → HoldsSize rest n part
HoldsSize-fewer m n rest len part h some le e =
    let less : rest * n ≤ m * n = mul-le-mul_right n le in
    record { cells = e; below = omega (arith, h.below); size = record { has_cols = λ _. h.size.has_cols (omega arith); has_rows = λ _. some } }
