-- An edit of columns is the edit of rows of the transposed table.
use Rattle.std.proofs.Common.{◌≡◌, ℕ, zero, suc, ◌+◌, ◌-◌, ◌<◌, ◌≤◌, List, [], ◌∷◌, ◌++◌, length, get_or, map, take, drop, filter, replicate, refl, sym, ◌∙◌, ap, arith, append_assoc, ⊎_elim, slice_get, insert, length-take-le, append-nil, take_at, drop_at, take_all}
use Rattle.grid.proofs.Common.{length-map, get_or-map, length-replicate, drop_all, length-insert, slice_get-get_or, cases_lt, row, row_count, col_count, cell, transposed, IsTable, tabulate, act, get-replicate, same_tables, IsSize-table, past_cols, cell_past_rows, rows-act, cols-act, cell-act, IsTable-act, act_is_transposed, insert_rows, without_rows, insert_into_rows, insert_col, insert_cols, has_cells, without_cols, expanded_rows, prepended_rows, expanded_cols, prepended_cols}
use Rattle.grid_base.specs.declared.words.Symmetry.TheVariants.{Transpose}
use Rattle.grid.proofs.ListEditLemmas.{get-cut_before, get-cut_after, get-put_before, get-put_new, get-put_after, length-put, length-cut, put_cases}
use Rattle.grid.proofs.RowEditLemmas.{HasWidth, HasWidth-put, rows-put, rows-take, row-put_before, row-put_new, row-put_after, row-take_before, row-take_after}
use Rattle.grid.proofs.EditViewLemmas.{IsTable-line}
use Rattle.grid.proofs.EditSizeLemmas.{LinesFit, IsTable-put, IsTable-take, put-no_lines, cols-put_lines, cols-take, take_all_rows, copies, expanded-put, prepended-put, HasWidth-copies, row-copies, IsTable-width}

module _ {T : Type 0} where
  module _ (t : List (List T)) (h : IsTable t) where
    pub rows-across : row_count (act Transpose t) ≡ col_count t
    rows-across = rows-act Transpose t

    pub cols-across : col_count (act Transpose t) ≡ row_count t
    cols-across = cols-act Transpose t h

    pub cell-cross : (r c : ℕ) → cell (act Transpose t) r c ≡ cell t c r
    cell-cross r c =
        let v = act Transpose t in
        let hv = IsTable-act Transpose t h in
        ⊎_elim (λ lr.
        ⊎_elim (λ lc. cell-act Transpose t r c h lr lc)
        (λ ge. past_cols v hv r c (omega (arith, cols-across)) ∙ sym (cell_past_rows t c r ge))
        (cases_lt c (row_count t)))
        (λ ge. cell_past_rows v r c (omega (arith, rows-across)) ∙ sym (past_cols t h c r ge))
        (cases_lt r (col_count t))

    pub HasWidth-across : HasWidth (act Transpose t) (row_count t)
    HasWidth-across r lt = (IsTable-act Transpose t h).even r lt ∙ cols-across

  -- a table is the transposed table of u if it has its cells
  pub across_by_cells : (t u : List (List T)) → IsTable u → row_count t ≡ col_count u → HasWidth t (row_count u) → ((r : ℕ) → r < col_count u → (c : ℕ) → c < row_count u → cell t r c ≡ cell u c r) → t ≡ act Transpose u
  across_by_cells t u h rows widths cells =
      same_tables t (act Transpose u) (rows ∙ sym (rows-across u h))
      (λ r lt. widths r lt ∙ sym (HasWidth-across u h r (omega (arith, rows-across u h))))
      (λ r c lt lc.
      let lr : r < col_count u = omega arith in
      let l : c < row_count u = omega (arith, widths r lt) in
      cells r lr c l ∙ sym (cell-cross u h r c))

  pub across-across : (t : List (List T)) → IsTable t → act Transpose (act Transpose t) ≡ t
  across-across t h =
      let v = act Transpose t in
      sym (across_by_cells t v (IsTable-act Transpose t h) (sym (cols-across t h))
      (λ r lt. h.even r lt ∙ sym (rows-across t h))
      (λ r lr c lc. sym (cell-cross t h c r)))

  pub across-none : ◌≡◌ {A = List (List T)} (act Transpose []) []
  unfolding act tabulate
  across-none = refl

  -- what a row edit left is the transposed table of what comes back
  pub across-back : (left new : List (List T)) → IsTable left → new ≡ act Transpose left → transposed new ≡ left
  across-back left new h e = ap transposed e ∙ (sym (act_is_transposed (act Transpose left)) ∙ across-across left h)

  -- a cell put into each row of a table
  length-put_into : (i : ℕ) (xs : List T) (t : List (List T)) → length xs ≡ length t → length (insert_into_rows i xs t) ≡ length t
  length-put_into i [] [] e = refl
  length-put_into i [] (r ∷ t) e = absurd (omega arith)
  length-put_into i (x ∷ xs) [] e = absurd (omega arith)
  length-put_into i (x ∷ xs) (r ∷ t) e = ap suc (length-put_into i xs t (omega arith))

  row-put_into : (i : ℕ) (xs : List T) (t : List (List T)) (d : T) (r : ℕ) → length xs ≡ length t → r < length t → row (insert_into_rows i xs t) r ≡ insert (row t r) i (get_or xs r d)
  row-put_into i [] [] d r e lt = absurd (omega arith)
  row-put_into i [] (v ∷ t) d r e lt = absurd (omega arith)
  row-put_into i (x ∷ xs) [] d r e lt = absurd (omega arith)
  row-put_into i (x ∷ xs) (v ∷ t) d zero e lt = refl
  row-put_into i (x ∷ xs) (v ∷ t) d (suc r) e lt = row-put_into i xs t d r (omega arith) (omega arith)

  -- a column that fits: as many cells as there are rows, or any number before the first column if there are none
  pub record ColumnFits (i : ℕ) (xs : List T) (t : List (List T)) : Type 0 where
    pub is_table : IsTable t
    pub in_cols : i ≤ col_count t
    pub height : 0 < row_count t → length xs ≡ row_count t
    pub nonempty : 0 < length xs

  length-insert_col : (i : ℕ) (xs : List T) (t : List (List T)) → ColumnFits i xs t → length (insert_col i xs t) ≡ length xs
  length-insert_col i xs [] h = length-map xs (λ x. x ∷ [])
  length-insert_col i xs (r ∷ t) h = length-put_into i xs (r ∷ t) (h.height (omega arith)) ∙ sym (h.height (omega arith))

  row-insert_col : (i : ℕ) (xs : List T) (t : List (List T)) (d : T) (r : ℕ) → ColumnFits i xs t → r < length xs → row (insert_col i xs t) r ≡ insert (row t r) i (get_or xs r d)
  row-insert_col i xs [] d r h lt =
      let first : i ≡ 0 = omega (arith, h.in_cols) in
      get_or-map (λ x. x ∷ []) xs r d [] lt ∙ ap (λ x. insert [] x (get_or xs r d)) (sym first)
  row-insert_col i xs (v ∷ t) d r h lt = row-put_into i xs (v ∷ t) d r (h.height (omega arith)) (omega (arith, h.height (omega arith)))

  -- each row of a table is as long as there are columns, past the end too if there are none
  width_at : (i : ℕ) (xs : List T) (t : List (List T)) → ColumnFits i xs t → (r : ℕ) → r < length xs → length (row t r) ≡ col_count t
  width_at i xs [] h r lt = refl
  width_at i xs (v ∷ t) h r lt = h.is_table.even r (omega (arith, h.height (omega arith)))

  some_rows : (t : List (List T)) → IsTable t → 0 < col_count t → 0 < row_count t
  some_rows t h = (IsSize-table t h).has_rows

  put_lines : (i : ℕ) (xs : List T) (t : List (List T)) → ColumnFits i xs t → LinesFit i (xs ∷ []) (act Transpose t)
  put_lines i xs t h =
      let rows = rows-across t h.is_table in
      record {
        in_rows = omega (arith, h.in_cols);
        old = IsTable-act Transpose t h.is_table;
        new = IsTable-line xs h.nonempty;
        width = λ e _. h.height (some_rows t h.is_table (omega arith)) ∙ sym (cols-across t h.is_table);
      }

  only_one : (xs : List T) (d : T) (r j : ℕ) → r < length xs → j < 1 → slice_get (get_or xs r d ∷ []) j ≡ slice_get (row (xs ∷ []) j) r
  only_one xs d r zero lr lt = sym (slice_get-get_or xs r d lr)
  only_one xs d r (suc j) lr lt = absurd (omega arith)

  -- row r of a table with x put before place i, where x is column r of some lines
  put_at : (t : List (List T)) → IsTable t → (i r : ℕ) (x y : List T) (lines : List (List T)) → y ≡ take i (row t r) ++ x ++ drop i (row t r) → length (row t r) ≡ col_count t → i ≤ col_count t → row_count lines ≡ length x → ((j : ℕ) → j < length x → slice_get x j ≡ slice_get (row lines j) r) → (c : ℕ) → c < col_count t + length x → slice_get y c ≡ cell (insert_rows i lines (act Transpose t)) c r
  put_at t h i r x y lines is wide le count new =
      let v = act Transpose t in
      let xs = row t r in
      let in_row : i ≤ length xs = omega arith in
      let in_v : i ≤ row_count v = omega (arith, rows-across t h) in
      put_cases (λ c. slice_get y c ≡ cell (insert_rows i lines v) c r) i (col_count t) (length x)
      (λ c lt.
      ap (λ z. slice_get z c) is
      ∙ (get-put_before xs x i in_row c lt
      ∙ (sym (cell-cross t h c r) ∙ ap (λ z. slice_get z r) (sym (row-put_before i lines v in_v c lt)))))
      (λ j lt.
      ap (λ z. slice_get z (i + j)) is
      ∙ (get-put_new xs x i in_row j lt ∙ (new j lt ∙ ap (λ z. slice_get z r) (sym (row-put_new i lines v in_v j (omega arith))))))
      (λ c ge lt.
      ap (λ z. slice_get z (length x + c)) is
      ∙ (get-put_after xs x i in_row c ge
      ∙ (sym (cell-cross t h c r)
      ∙ (ap (λ z. slice_get z r) (sym (row-put_after i lines v in_v c ge)) ∙ ap (λ k. cell (insert_rows i lines v) (k + c) r) count))))

  cell-insert_col : (d : T) (i : ℕ) (xs : List T) (t : List (List T)) → ColumnFits i xs t → (r : ℕ) → r < length xs → (c : ℕ) → c < col_count t + 1 → cell (insert_col i xs t) r c ≡ cell (insert_rows i (xs ∷ []) (act Transpose t)) c r
  cell-insert_col d i xs t h r lr =
      let x : List T = get_or xs r d ∷ [] in
      let is = row-insert_col i xs t d r h lr ∙ sym (append_assoc (take i (row t r)) x (drop i (row t r))) in
      put_at t h.is_table i r x (row (insert_col i xs t) r) (xs ∷ []) is (width_at i xs t h r lr) h.in_cols refl (λ j lt. only_one xs d r j lr lt)

  -- one column put
  pub insert_col-across : (i : ℕ) (xs : List T) (t : List (List T)) → ColumnFits i xs t → insert_col i xs t ≡ act Transpose (insert_rows i (xs ∷ []) (act Transpose t))
  insert_col-across i [] t h = absurd (omega (arith, h.nonempty))
  insert_col-across i (d ∷ others) t h =
      let xs = d ∷ others in
      let v = act Transpose t in
      let u = insert_rows i (xs ∷ []) v in
      let fit = put_lines i xs t h in
      let one : 0 < 1 = omega arith in
      let rows_u : row_count u ≡ row_count v + 1 = rows-put i (xs ∷ []) v fit.in_rows in
      let cols_u : col_count u ≡ length xs = cols-put_lines i (xs ∷ []) v fit one in
      let rows_v : row_count v ≡ col_count t = rows-across t h.is_table in
      across_by_cells (insert_col i xs t) u (IsTable-put i (xs ∷ []) v fit) (length-insert_col i xs t h ∙ sym cols_u)
      (λ r lt.
      let l : r < length xs = omega (arith, length-insert_col i xs t h) in
      let wide : length (row t r) ≡ col_count t = width_at i xs t h r l in
      ap length (row-insert_col i xs t d r h l) ∙ (length-insert (row t r) i (get_or xs r d) (omega (arith, h.in_cols)) ∙ omega arith))
      (λ r lr c lc. cell-insert_col d i xs t h r (omega arith) c (omega arith))

  -- lines that fit between the columns of a table
  pub record ColumnsFit (i : ℕ) (lines t : List (List T)) : Type 0 where
    pub in_cols : i ≤ col_count t
    pub old : IsTable t
    pub new : IsTable lines
    pub height : 0 < row_count t → 0 < row_count lines → col_count lines ≡ row_count t

  pub LinesFit-across : (i : ℕ) (lines t : List (List T)) → ColumnsFit i lines t → LinesFit i lines (act Transpose t)
  LinesFit-across i lines t h =
      let rows = rows-across t h.old in
      record {
        in_rows = omega (arith, h.in_cols);
        old = IsTable-act Transpose t h.old;
        new = h.new;
        width = λ e some. h.height (some_rows t h.old (omega arith)) some ∙ sym (cols-across t h.old);
      }

  IsTable-tail : (line : List T) (lines : List (List T)) → IsTable (line ∷ lines) → IsTable lines
  IsTable-tail line lines h =
      record {
        nonempty = λ r lt. h.nonempty (suc r) (omega arith);
        even = λ r lt. h.even (suc r) (omega arith) ∙ sym (h.even 1 (omega arith));
      }

  ColumnsFit-tail : (i : ℕ) (line : List T) (lines t : List (List T)) → ColumnsFit i (line ∷ lines) t → ColumnsFit i lines t
  ColumnsFit-tail i line lines t h =
      record {
        in_cols = h.in_cols;
        old = h.old;
        new = IsTable-tail line lines h.new;
        height = λ e some. h.new.even 1 (omega arith) ∙ h.height e (omega arith);
      }

  -- one line put before the others is put with them
  put_one_more : (i : ℕ) (line : List T) (lines v : List (List T)) → i ≤ row_count v → insert_rows i (line ∷ []) (insert_rows i lines v) ≡ insert_rows i (line ∷ lines) v
  put_one_more i line lines v le =
      let front : take i (take i v ++ lines ++ drop i v) ≡ take i v = ap (take i) (append_assoc (take i v) lines (drop i v)) ∙ take_at (take i v) (lines ++ drop i v) i (length-take-le i v le) in
      let back : drop i (take i v ++ lines ++ drop i v) ≡ lines ++ drop i v = ap (drop i) (append_assoc (take i v) lines (drop i v)) ∙ drop_at (take i v) (lines ++ drop i v) i (length-take-le i v le) in
      ap (λ y. y ++ (line ∷ []) ++ drop i (take i v ++ lines ++ drop i v)) front
      ∙ (ap (λ y. take i v ++ (line ∷ []) ++ y) back
      ∙ (append_assoc (take i v) (line ∷ []) (lines ++ drop i v) ∙ sym (append_assoc (take i v) (line ∷ lines) (drop i v))))

  -- the next column fits the table that has the others
  next_fits : (i : ℕ) (line : List T) (lines t : List (List T)) → ColumnsFit i (line ∷ lines) t → ColumnFits i line (act Transpose (insert_rows i lines (act Transpose t)))
  next_fits i line lines t h =
      let rest = ColumnsFit-tail i line lines t h in
      let v = act Transpose t in
      let u = insert_rows i lines v in
      let fit = LinesFit-across i lines t rest in
      let table = IsTable-put i lines v fit in
      let wide : HasWidth u (length line) =
      HasWidth-put i lines v fit.in_rows (length line)
      (λ r lt. HasWidth-across t h.old r lt ∙ sym (h.height (some_rows t h.old (omega (arith, rows-across t h.old))) (omega arith)))
      (λ j lt. h.new.even (suc j) (omega arith)) in
      record {
        is_table = IsTable-act Transpose u table;
        in_cols = omega (arith, cols-across u table, rows-put i lines v fit.in_rows, fit.in_rows);
        height = λ e. let some : 0 < col_count u = omega (arith, rows-across u table) in sym (wide 0 (some_rows u table some)) ∙ sym (rows-across u table);
        nonempty = h.new.nonempty 0 (omega arith);
      }

  -- columns are put as rows of the transposed table
  pub insert_cols-across : (i : ℕ) (lines t : List (List T)) → ColumnsFit i lines t → insert_cols i lines t ≡ act Transpose (insert_rows i lines (act Transpose t))
  insert_cols-across i [] t h = sym (ap (act Transpose) (put-no_lines i [] (act Transpose t) refl) ∙ across-across t h.old)
  insert_cols-across i (line ∷ lines) t h =
      let rest = ColumnsFit-tail i line lines t h in
      let v = act Transpose t in
      let u = insert_rows i lines v in
      let fit = LinesFit-across i lines t rest in
      ap (insert_col i line) (insert_cols-across i lines t rest)
      ∙ (insert_col-across i line (act Transpose u) (next_fits i line lines t h)
      ∙ (ap (λ w. act Transpose (insert_rows i (line ∷ []) w)) (across-across u (IsTable-put i lines v fit))
      ∙ ap (act Transpose) (put_one_more i line lines v fit.in_rows)))

  -- rows that have cells stay, and rows that have none leave
  pub filter_all : (t : List (List T)) → ((r : ℕ) → r < length t → 0 < length (row t r)) → filter has_cells t ≡ t
  filter_all [] h = refl
  filter_all ([] ∷ t) h = absurd (omega (arith, h 0 (omega arith)))
  filter_all ((x ∷ xs) ∷ t) h = ap (λ u. (x ∷ xs) ∷ u) (filter_all t (λ r lt. h (suc r) (omega arith)))

  filter_none : (t : List (List T)) → ((r : ℕ) → r < length t → length (row t r) ≡ 0) → filter has_cells t ≡ []
  filter_none [] h = refl
  filter_none ([] ∷ t) h = filter_none t (λ r lt. h (suc r) (omega arith))
  filter_none ((x ∷ xs) ∷ t) h = absurd (omega (arith, h 0 (omega arith)))

  module _ (i k : ℕ) (t : List (List T)) (h : IsTable t) (in_cols : i + k ≤ col_count t) where
    row_of_cut : (r : ℕ) → r < row_count t → row (map (λ r. take i r ++ drop (i + k) r) t) r ≡ take i (row t r) ++ drop (i + k) (row t r)
    row_of_cut r lt = get_or-map (λ r. take i r ++ drop (i + k) r) t r [] [] lt

    width_of_cut : (r : ℕ) → r < row_count t → length (row (map (λ r. take i r ++ drop (i + k) r) t) r) + k ≡ col_count t
    width_of_cut r lt =
        ap (λ y. length y + k) (row_of_cut r lt) ∙ (length-cut (row t r) i k (omega (arith, h.even r lt)) ∙ h.even r lt)

    some_left : k < col_count t → without_cols i k t ≡ act Transpose (without_rows i k (act Transpose t))
    some_left some =
        let u = map (λ r. take i r ++ drop (i + k) r) t in
        let v = act Transpose t in
        let rows_u : row_count u ≡ row_count t = length-map t (λ r. take i r ++ drop (i + k) r) in
        let rows_v : row_count v ≡ col_count t = rows-across t h in
        let table = IsTable-act Transpose t h in
        let in_v : i + k ≤ row_count v = omega arith in
        let w = without_rows i k v in
        let rows_w : row_count w + k ≡ row_count v = rows-take i k v in_v in
        let cols_w : col_count w ≡ row_count t = cols-take i k v table in_v (omega arith) ∙ cols-across t h in
        filter_all u (λ r lt. omega (arith, width_of_cut r (omega arith)))
        ∙ across_by_cells u w (IsTable-take i k v table in_v) (rows_u ∙ sym cols_w)
        (λ r lt. omega (arith, width_of_cut r (omega arith)))
        (λ r lr c lc.
        let l : r < row_count t = omega arith in
        let le : i ≤ length (row t r) = omega (arith, h.even r l) in
        ap (λ y. slice_get y c) (row_of_cut r l)
        ∙ ⊎_elim (λ lt.
        get-cut_before (row t r) i (i + k) le c lt
        ∙ (sym (cell-cross t h c r) ∙ ap (λ y. slice_get y r) (sym (row-take_before i k v in_v c lt))))
        (λ ge.
        let e : i + k + (c - i) ≡ k + c = omega arith in
        get-cut_after (row t r) i (i + k) le c (c - i) (omega arith)
        ∙ (ap (slice_get (row t r)) e
        ∙ (sym (cell-cross t h (k + c) r) ∙ ap (λ y. slice_get y r) (sym (row-take_after i k v in_v c ge)))))
        (cases_lt c i))

    none_left : k ≡ col_count t → without_cols i k t ≡ act Transpose (without_rows i k (act Transpose t))
    none_left all =
        let u = map (λ r. take i r ++ drop (i + k) r) t in
        let v = act Transpose t in
        let rows_u : row_count u ≡ row_count t = length-map t (λ r. take i r ++ drop (i + k) r) in
        let rows_v : row_count v ≡ col_count t = rows-across t h in
        filter_none u (λ r lt. omega (arith, width_of_cut r (omega arith)))
        ∙ (sym across-none ∙ ap (act Transpose) (sym (take_all_rows i k v (IsTable-act Transpose t h) (omega arith) (omega arith))))

    -- columns are taken as rows of the transposed table
    pub without_cols-across : without_cols i k t ≡ act Transpose (without_rows i k (act Transpose t))
    without_cols-across = ⊎_elim (λ lt. some_left lt) (λ ge. none_left (omega arith)) (cases_lt k (col_count t))

  pub map_same : (f g : List T → List T) (t : List (List T)) → ((r : ℕ) → r < length t → f (row t r) ≡ g (row t r)) → map f t ≡ map g t
  map_same f g [] h = refl
  map_same f g (x ∷ t) h =
      let first : f x ≡ g x = h 0 (omega arith) in
      let rest : map f t ≡ map g t = map_same f g t (λ r lt. h (suc r) (omega arith)) in
      cc

  module _ (k : ℕ) (d : T) (t : List (List T)) (h : IsTable t) (some : 0 < row_count t) where
    -- k cells d put into each row before place i
    pad_at : (i : ℕ) → i ≤ col_count t → map (λ r. take i r ++ replicate k d ++ drop i r) t ≡ act Transpose (insert_rows i (copies k (row_count t) d) (act Transpose t))
    pad_at i le =
        let u = map (λ r. take i r ++ replicate k d ++ drop i r) t in
        let v = act Transpose t in
        let lines = copies k (row_count t) d in
        let w = insert_rows i lines v in
        let len : length (replicate k d) ≡ k = length-replicate k d in
        let rows_lines : row_count lines ≡ k = length-replicate k (replicate (row_count t) d) in
        let rows_u : row_count u ≡ row_count t = length-map t (λ r. take i r ++ replicate k d ++ drop i r) in
        let rows_v : row_count v ≡ col_count t = rows-across t h in
        let table = IsTable-act Transpose t h in
        let in_v : i ≤ row_count v = omega arith in
        let rows_w : row_count w ≡ row_count v + row_count lines = rows-put i lines v in_v in
        let wide : HasWidth w (row_count t) = HasWidth-put i lines v in_v (row_count t) (HasWidth-across t h) (HasWidth-copies k (row_count t) d) in
        let first : 0 < col_count t = h.nonempty 0 some in
        let cols_w : col_count w ≡ row_count t = wide 0 (omega arith) in
        let at_row : (r : ℕ) → r < row_count t → row u r ≡ take i (row t r) ++ replicate k d ++ drop i (row t r) = λ r lt. get_or-map (λ r. take i r ++ replicate k d ++ drop i r) t r [] [] lt in
        across_by_cells u w (IsTable-width w (row_count t) some wide) (rows_u ∙ sym cols_w)
        (λ r lt.
        let l : r < row_count t = omega arith in
        ap length (at_row r l) ∙ (length-put (row t r) (replicate k d) i (omega (arith, h.even r l)) ∙ omega (arith, h.even r l)))
        (λ r lr c lc.
        let l : r < row_count t = omega arith in
        let new : (j : ℕ) → j < length (replicate k d) → slice_get (replicate k d) j ≡ slice_get (row lines j) r =
        λ j lt. let le : j < k = omega arith in
        get-replicate k d j le ∙ (sym (get-replicate (row_count t) d r l) ∙ ap (λ z. slice_get z r) (sym (row-copies k (row_count t) d j le))) in
        put_at t h i r (replicate k d) (row u r) lines (at_row r l) (h.even r l) le (rows_lines ∙ sym len) new c (omega arith))

    -- the transposed table with copies put as rows
    copies_across : (i : ℕ) → insert_rows i (copies k (col_count (act Transpose t)) d) (act Transpose t) ≡ insert_rows i (copies k (row_count t) d) (act Transpose t)
    copies_across i = ap (λ x. insert_rows i (copies k x d) (act Transpose t)) (cols-across t h)

    some_across : 0 < row_count (act Transpose t)
    some_across = omega (arith, rows-across t h, h.nonempty 0 some)

    expand_at : expanded_cols k d t ≡ act Transpose (expanded_rows k d (act Transpose t))
    expand_at =
        let n = col_count t in
        map_same (λ r. r ++ replicate k d) (λ r. take n r ++ replicate k d ++ drop n r) t
        (λ r lt.
        let front : take n (row t r) ≡ row t r = take_all n (row t r) (omega (arith, h.even r lt)) in
        let back : drop n (row t r) ≡ [] = drop_all n (row t r) (omega (arith, h.even r lt)) in
        sym (ap (λ y. y ++ replicate k d ++ drop n (row t r)) front ∙ (ap (λ y. row t r ++ replicate k d ++ y) back ∙ append-nil (row t r ++ replicate k d))))
        ∙ (pad_at n (omega arith)
        ∙ ap (act Transpose) (sym (expanded-put k d (act Transpose t) some_across
        ∙ (copies_across (row_count (act Transpose t)) ∙ ap (λ i. insert_rows i (copies k (row_count t) d) (act Transpose t)) (rows-across t h)))))

    prepend_at : prepended_cols k d t ≡ act Transpose (prepended_rows k d (act Transpose t))
    prepend_at =
        pad_at 0 (omega arith)
        ∙ ap (act Transpose) (sym (prepended-put k d (act Transpose t) some_across ∙ copies_across 0))

  -- cells at the end or at the beginning of each row are rows of the transposed table
  pub expanded_cols-across : (k : ℕ) (d : T) (t : List (List T)) → IsTable t → expanded_cols k d t ≡ act Transpose (expanded_rows k d (act Transpose t))
  expanded_cols-across k d [] h = sym (ap (λ v. act Transpose (expanded_rows k d v)) across-none ∙ across-none)
  expanded_cols-across k d (r ∷ t) h = expand_at k d (r ∷ t) h (omega arith)

  pub prepended_cols-across : (k : ℕ) (d : T) (t : List (List T)) → IsTable t → prepended_cols k d t ≡ act Transpose (prepended_rows k d (act Transpose t))
  prepended_cols-across k d [] h = sym (ap (λ v. act Transpose (prepended_rows k d v)) across-none ∙ across-none)
  prepended_cols-across k d (r ∷ t) h = prepend_at k d (r ∷ t) h (omega arith)
