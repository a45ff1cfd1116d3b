-- What padding starts from and leaves, by a grid's fields, and as columns between two transposes.
use Rattle.std.proofs.Common.{◌≡◌, ◌<◌, ◌≤◌, ◌+◌, ◌*◌, ◌^◌, ◌⊎◌, ◌∷◌, [], ℕ, List, take, drop, length, refl, sym, ◌∙◌, ap, arith, ⊎_elim, subst, inr, length-append, All, take_at, drop_at, ext_get_or}
use Rattle.grid.proofs.Common.{nil_from_length, length-replicate, All-nil, All-get_or, cases_eq, row, row_count, col_count, IsTable, table_of, GridValue, HoldsSize, act, Opened, grid_value, AppendsEach, factor_small, PadsRows, PadsCols, padding_count, insert_rows, expanded_rows, prepended_rows, IsOnlyDefault, RowGroups}
use Rattle.grid_base.specs.declared.order.Order.{Order}
use Rattle.grid_base.specs.declared.words.Symmetry.TheVariants.{Transpose}
use Rattle.grid.proofs.SeenLemmas.{seen_rows, seen_cols}
use Rattle.grid.proofs.PaddingLemmas.{RowsOpened, view-open_rows, All-all_fresh, replicate_from_all, All-from_gets, holds_at}
use Rattle.grid.proofs.EditSizeLemmas.{HoldsSize-filled, IsTable-width, put-no_lines, copies, row-copies, expanded-put, prepended-put}
use Rattle.grid.proofs.RowEditLemmas.{HasWidth, HasWidth-put, rows-put}
use Rattle.grid.proofs.ColEditLemmas.{rows-across, cols-across, HasWidth-across, across-none, ColumnsFit, insert_cols-across, expanded_cols-across, prepended_cols-across}

module _ {T : Type 0} where
  pub padding_some : (k : ℕ) (t : List (List T)) → 0 < row_count t → padding_count k t ≡ k
  padding_some k [] some = absurd (omega arith)
  padding_some k (r ∷ t) some = refl

  pub padding_none : (k : ℕ) (t : List (List T)) → (k ≡ 0) ⊎ (row_count t ≡ 0) → padding_count k t ≡ 0
  padding_none k [] none = refl
  padding_none k (r ∷ t) none = ⊎_elim {C = k ≡ 0} (λ e. e) (λ e. absurd (omega arith)) none

  -- the fresh rows where there is one default
  fresh_copies : (P : T → Type 0) (n : ℕ) (d : T) (fresh : List (List T)) → ((x : T) → P x → x ≡ d) → ((j : ℕ) → j < row_count fresh → length (row fresh j) ≡ n) → All (All P) fresh → fresh ≡ copies (row_count fresh) n d
  fresh_copies P n d fresh one wide all =
      ext_get_or [] fresh (copies (row_count fresh) n d) (sym (length-replicate (row_count fresh) _))
      (λ j lt.
      let each : All P (row fresh j) = All-get_or (All P) fresh j [] lt all in
      let same : All (λ x. x ≡ d) (row fresh j) = All-from_gets (λ x. x ≡ d) (row fresh j) (λ c x lc e. one x (holds_at P (row fresh j) c x each lc e)) in
      replicate_from_all d (row fresh j) n same (wide j lt) ∙ sym (row-copies (row_count fresh) n d j lt))

  expanded_copies : (k : ℕ) (d : T) (t : List (List T)) → insert_rows (row_count t) (copies (padding_count k t) (col_count t) d) t ≡ expanded_rows k d t
  expanded_copies k d [] = refl
  expanded_copies k d (r ∷ t) = sym (expanded-put k d (r ∷ t) (omega arith))

  prepended_copies : (k : ℕ) (d : T) (t : List (List T)) → insert_rows 0 (copies (padding_count k t) (col_count t) d) t ≡ prepended_rows k d t
  prepended_copies k d [] = refl
  prepended_copies k d (r ∷ t) = sym (prepended-put k d (r ∷ t) (omega arith))

  -- rows that are put are padding
  pub pads_put : (P : T → Type 0) (i k : ℕ) (t new fresh : List (List T)) → row_count fresh ≡ padding_count k t → ((j : ℕ) → j < row_count fresh → length (row fresh j) ≡ col_count t) → All (All P) fresh → new ≡ insert_rows i fresh t → PadsRows P i k t new
  pads_put P i k t new fresh number widths each put =
      let copied : (d : T) → IsOnlyDefault P d → new ≡ insert_rows i (copies (padding_count k t) (col_count t) d) t = λ d one.
      put
      ∙ (ap (λ v. insert_rows i v t) (fresh_copies P (col_count t) d fresh one widths each)
      ∙ ap (λ x. insert_rows i (copies x (col_count t) d) t) number) in
      record {
        fresh = fresh;
        number = number;
        widths = widths;
        each = each;
        put = put;
        at_end = λ e d one.
            copied d one ∙ (ap (λ x. insert_rows x (copies (padding_count k t) (col_count t) d) t) e ∙ expanded_copies k d t);
        at_start = λ e d one.
            copied d one ∙ (ap (λ x. insert_rows x (copies (padding_count k t) (col_count t) d) t) e ∙ prepended_copies k d t);
      }

  -- padding by no rows
  pub pads_none : (P : T → Type 0) (i k : ℕ) (t : List (List T)) → padding_count k t ≡ 0 → PadsRows P i k t t
  pads_none P i k t none =
      pads_put P i k t t [] (sym none) (λ j lt. absurd (omega arith)) (All-nil (All P)) (sym (put-no_lines i [] t refl))

-- padding some rows of a grid
module _ {T : Type 0} (o : Order) (m n : ℕ) (cells : List T) (s : GridValue T) (h : HoldsSize m n (length cells)) (e : grid_value o m n cells h ≡ s) (k a b : ℕ) (rows : a ≡ row_count s.rows) (cols : b ≡ col_count s.rows) (some : a ≡ 0 → ⊥) (room : (a + k) * b < 2 ^ 64) where
  as_rows : a ≡ m
  as_rows = rows ∙ seen_rows o m n cells s h e

  as_cols : b ≡ n
  as_cols = cols ∙ seen_cols o m n cells s h e

  total : (a + k) * b ≡ (m + k) * n
  total = ap (λ x. (x + k) * b) as_rows ∙ ap (λ x. (m + k) * x) as_cols

  some_rows : 0 < m
  some_rows = omega (arith, as_rows, some)

  some_cols : 0 < n
  some_cols = h.size.has_cols some_rows

  pub pad_cols : 0 < b
  pad_cols = omega (arith, as_cols, some_cols)

  pub pad_rows_small : m + k < 2 ^ 64
  pad_rows_small = factor_small (m + k) n some_cols (omega (arith, total, room))

  pub pad_shift : (F : Order → ℕ → ℕ → ℕ → ℕ) → F s.order (row_count s.rows) (col_count s.rows) k ≡ F o a b k
  pad_shift F =
      ap (λ x. F s.order x (col_count s.rows) k) (sym rows)
      ∙ (ap (λ x. F s.order a x k) (sym cols) ∙ ap (λ x. F x.order a b k) (sym e))

  module _ (P : T → Type 0) (grown : List T) (f : AppendsEach P (k * b) cells grown) where
    pub pad_cells : length grown ≡ (a + k) * b
    pad_cells =
        let size : a * b ≡ m * n = ap (λ x. x * b) as_rows ∙ ap (λ x. m * x) as_cols in
        ap length f.appended ∙ (length-append cells f.fresh ∙ omega (arith, h.cells, f.number, size))

    front : take (m * n) grown ≡ cells
    front = ap (take (m * n)) f.appended ∙ take_at cells f.fresh (m * n) h.cells

    back : All P (drop (m * n) grown)
    back = subst (All P) (sym (ap (drop (m * n)) f.appended ∙ drop_at cells f.fresh (m * n) h.cells)) f.each

    module _ (i x y z g : ℕ) (new : List T) (groups : RowGroups o a b i k x y z g) (le : i ≤ row_count s.rows) (opened : Opened x y z g grown new) where
      abbrev p : RowsOpened o m n i k grown new
      p =
          subst (λ x. RowsOpened o x n i k grown new) as_rows
          (subst (λ x. RowsOpened o a x i k grown new) as_cols
          (view-open_rows o a b i k x y z g grown new groups (omega (arith, pad_cells)) (omega (arith, le, rows)) opened))

      pub pads_rows : PadsRows P i k s.rows (table_of o (m + k) n new)
      pads_rows =
          pads_put P i k s.rows (table_of o (m + k) n new) p.fresh
          (p.rows ∙ sym (padding_some k s.rows (omega (arith, rows, some))))
          (λ r lt. p.widths r lt ∙ sym (seen_cols o m n cells s h e))
          (All-all_fresh o m n i k grown new p P back)
          (p.put ∙ (ap (λ v. insert_rows i p.fresh (table_of o m n v)) front ∙ ap (λ v. insert_rows i p.fresh v.rows) e))

      pub pad_fits : HoldsSize (m + k) n (length new)
      pad_fits =
          let len : length new ≡ (m + k) * n = p.lengths ∙ (pad_cells ∙ total) in
          HoldsSize-filled (m + k) n (length new) (omega (arith, some_rows)) some_cols len (omega (arith, len, total, room))

-- rows of padding between two transposes are columns
module _ {T : Type 0} (t : List (List T)) (h : IsTable t) where
  pub padding_count-across : (k : ℕ) → padding_count k (act Transpose t) ≡ padding_count k t
  padding_count-across k =
      ⊎_elim
      (λ none. let e : t ≡ [] = nil_from_length t none in ap (λ v. padding_count k (act Transpose v)) e ∙ (ap (padding_count k) across-none ∙ ap (padding_count k) (sym e)))
      (λ more.
      let some : 0 < row_count t = omega arith in
      let wide : 0 < col_count t = h.nonempty 0 some in
      padding_some k (act Transpose t) (omega (arith, rows-across t h, wide)) ∙ sym (padding_some k t some))
      (cases_eq (row_count t) 0)

  -- the width of the transposed table after that
  late_width : (i : ℕ) (fresh mid late : List (List T)) → mid ≡ act Transpose t → i ≤ row_count mid → ((r : ℕ) → r < row_count fresh → length (row fresh r) ≡ row_count t) → late ≡ insert_rows i fresh mid → col_count late ≡ row_count t
  late_width i fresh mid late there le heights put =
      let n = row_count t in
      let count : row_count late ≡ row_count mid + row_count fresh = ap row_count put ∙ rows-put i fresh mid le in
      let olds : HasWidth mid n = subst (λ v. HasWidth v n) (sym there) (HasWidth-across t h) in
      let wide : HasWidth late n = subst (λ v. HasWidth v n) (sym put) (HasWidth-put i fresh mid le n olds heights) in
      ⊎_elim {C = col_count late ≡ n}
      (λ none.
      let no_cols : col_count t ≡ 0 = omega (arith, count, none, ap row_count there, rows-across t h) in
      ap col_count (nil_from_length late none)
      ∙ ⊎_elim {C = 0 ≡ n} (λ e. sym e) (λ more. absurd (omega (arith, no_cols, h.nonempty 0 (omega arith)))) (cases_eq n 0))
      (λ more. wide 0 (omega arith))
      (cases_eq (row_count late) 0)

  pub pads_cols : (P : T → Type 0) (i k : ℕ) (mid late new : List (List T)) → IsTable late → mid ≡ act Transpose t → new ≡ act Transpose late → i ≤ col_count t → PadsRows P i k mid late → PadsCols P i k t new
  pads_cols P i k mid late new whole there back le p =
      let across : row_count mid ≡ col_count t = ap row_count there ∙ rows-across t h in
      let number : row_count p.fresh ≡ padding_count k t = p.number ∙ (ap (padding_count k) there ∙ padding_count-across k) in
      let heights : (r : ℕ) → r < row_count p.fresh → length (row p.fresh r) ≡ row_count t = λ r lt. p.widths r lt ∙ (ap col_count there ∙ cols-across t h) in
      let table : IsTable p.fresh =
      ⊎_elim
      (λ none.
      let empty : padding_count k t ≡ 0 = padding_none k t (inr none) in
      record {
        nonempty = λ r lt. absurd (omega (arith, number, empty, lt));
        even = λ r lt. absurd (omega (arith, number, empty, lt));
      })
      (λ more. IsTable-width p.fresh (row_count t) (omega arith) heights)
      (cases_eq (row_count t) 0) in
      let fit : ColumnsFit i p.fresh t = record { in_cols = le; old = h; new = table; height = λ _ lt. heights 0 lt } in
      record {
        fresh = p.fresh;
        number = number;
        heights = heights;
        each = p.each;
        put =
            back ∙ (ap (act Transpose) (p.put ∙ ap (insert_rows i p.fresh) there) ∙ sym (insert_cols-across i p.fresh t fit));
        rows = ap row_count back ∙ (rows-across late whole ∙ late_width i p.fresh mid late there (omega (arith, across, le)) heights p.put);
        cols =
            ap col_count back
            ∙ (cols-across late whole ∙ (ap row_count p.put ∙ (rows-put i p.fresh mid (omega (arith, across, le)) ∙ omega (arith, across, number))));
        at_end = λ e d one.
            back ∙ (ap (act Transpose) (p.at_end (e ∙ sym across) d one ∙ ap (expanded_rows k d) there) ∙ sym (expanded_cols-across k d t h));
        at_start = λ e d one.
            back ∙ (ap (act Transpose) (p.at_start e d one ∙ ap (prepended_rows k d) there) ∙ sym (prepended_cols-across k d t h));
      }

  -- where no columns are added, no rows are added to the transposed table
  pub none_added : (k : ℕ) (mid : List (List T)) → mid ≡ act Transpose t → padding_count k t ≡ 0 → padding_count k mid ≡ 0
  none_added k mid there none = ap (padding_count k) there ∙ (padding_count-across k ∙ none)

  -- the size and the shift are those of the transposed table
  pub size_across : (k : ℕ) (mid : List (List T)) → mid ≡ act Transpose t → (row_count mid + padding_count k mid) * col_count mid ≡ (col_count t + padding_count k t) * row_count t
  size_across k mid there =
      ap (λ v. (row_count v + padding_count k v) * col_count v) there
      ∙ (ap (λ x. (x + padding_count k (act Transpose t)) * col_count (act Transpose t)) (rows-across t h)
      ∙ (ap (λ x. (col_count t + x) * col_count (act Transpose t)) (padding_count-across k) ∙ ap (λ x. (col_count t + padding_count k t) * x) (cols-across t h)))
