-- What an edit of the vector by groups of cells does to the rows of its table.
use Rattle.std.proofs.Common.{◌≡◌, ℕ, zero, suc, ◌+◌, ◌*◌, ◌<◌, ◌≤◌, List, [], ◌∷◌, ◌++◌, length, take, drop, refl, sym, ◌∙◌, ap, arith, append_assoc, length-drop, slice_get, insert, remove, length-take-le}
use Rattle.grid.proofs.Common.{drop_more, row, row_count, col_count, cell, IsTable, tabulate, storage, place, table_of, Woven, Closed, rows-tabulate, same_cells, by_storage, length-storage, get-storage, place_within, has_place, get_append_left, get_append_right, get-take, get-drop, width-table_of, cell-table_of, insert_rows, without_rows, RowGroups}
use Rattle.grid_base.specs.declared.order.Order.{Order}
use Rattle.grid_base.specs.declared.order.Order.TheVariants.{RowMajor, ColumnMajor}
use Rattle.grid.proofs.ListEditLemmas.{get_or-same}
use Rattle.grid.proofs.RowEditLemmas.{RowsWidened, rows_widened, rows_woven, table-put, table-take, cells-groups}

place_of_line : (o : Order) (n c : ℕ) → place o 1 n 0 c ≡ c
place_of_line RowMajor n c = omega arith
place_of_line ColumnMajor n c = omega arith

module _ {T : Type 0} where
  -- one row
  pub IsTable-line : (line : List T) → 0 < length line → IsTable (line ∷ [])
  IsTable-line line some = record { nonempty = λ r lt. inside r lt; even = λ r lt. same r lt }
    where
      inside : (r : ℕ) → r < 1 → 0 < length (row (line ∷ []) r)
      inside zero lt = some
      inside (suc r) lt = absurd (omega arith)

      same : (r : ℕ) → r < 1 → length (row (line ∷ []) r) ≡ length line
      same zero lt = refl
      same (suc r) lt = absurd (omega arith)

  get-storage_at : (o : Order) (m n : ℕ) (t : List (List T)) (r c : ℕ) → IsTable t → row_count t ≡ m → col_count t ≡ n → r < m → c < n → slice_get (storage o t) (place o m n r c) ≡ cell t r c
  get-storage_at o m n t r c h em en lr lc =
      ap (λ x. slice_get (storage o t) (place o x n r c)) (sym em)
      ∙ (ap (λ x. slice_get (storage o t) (place o (row_count t) x r c)) (sym en) ∙ get-storage o t r c h (omega arith) (omega arith))

  -- the cells of a table of one row, in either order
  pub storage-line : (o : Order) (line : List T) → 0 < length line → storage o (line ∷ []) ≡ line
  storage-line o line some =
      let h = IsTable-line line some in
      let len : length (storage o (line ∷ [])) ≡ 1 * length line = length-storage o (line ∷ []) h in
      same_cells (storage o (line ∷ [])) line (omega arith)
      (λ c lt. ap (slice_get (storage o (line ∷ []))) (sym (place_of_line o (length line) c))
      ∙ get-storage_at o 1 (length line) (line ∷ []) 0 c h refl refl (omega arith) (omega arith))

  -- and the table that is cut from them
  pub table_of-line : (o : Order) (line : List T) → 0 < length line → table_of o 1 (length line) line ≡ line ∷ []
  table_of-line o line some =
      ap (table_of o 1 (length line)) (sym (storage-line o line some)) ∙ sym (by_storage o (line ∷ []) (IsTable-line line some))

  pub put_line : (i : ℕ) (line : List T) (t : List (List T)) → insert_rows i (line ∷ []) t ≡ insert t i line
  put_line i line t = append_assoc (take i t) (line ∷ []) (drop i t)

  pub take_line : (i : ℕ) (t : List (List T)) → without_rows i 1 t ≡ remove t i
  take_line i t = let e : i + 1 ≡ suc i = omega arith in ap (λ x. take i t ++ drop x t) e

  -- the table that is cut from m * n cells
  module _ (o : Order) (m n : ℕ) (cells : List T) (len : length cells ≡ m * n) where
    -- lines that were after the cells and are woven into them are rows
    pub view-insert_rows : (i k p q a g : ℕ) (lines : List (List T)) (new : List T) → RowGroups o m n i k p q a g → IsTable lines → row_count lines ≡ k → col_count lines ≡ n → i ≤ m → Woven p q a g (cells ++ storage o lines) new → table_of o (m + k) n new ≡ insert_rows i lines (table_of o m n cells)
    view-insert_rows i k p q a g lines new e h em en le w =
        let behind = storage o lines in
        let wide = rows_widened o m n i k p q a g (cells ++ behind) new e w.lines in
        table-put o m n i k (table_of o m n cells) lines new (rows-tabulate m n _) (width-table_of o m n cells len) em (λ j lt. h.even j (omega arith) ∙ en) le
        (λ r c lr lm lc. wide.before r c lr lm lc
        ∙ (get_append_left cells behind (place o m n r c) (omega (arith, len, place_within o m n r c lm lc)) ∙ sym (cell-table_of o m n cells len r c lm lc)))
        (λ j c lj lc. rows_woven o m n i k p q a g (cells ++ behind) new e w j c lj lc
        ∙ (get_append_right cells behind (m * n + place o k n j c) (place o k n j c) (omega (arith, len)) ∙ get-storage_at o k n lines j c h em en lj lc))
        (λ r c ge lm lc. wide.after r c ge lm lc
        ∙ (get_append_left cells behind (place o m n r c) (omega (arith, len, place_within o m n r c lm lc)) ∙ sym (cell-table_of o m n cells len r c lm lc)))

  -- the table of rest + k rows that is cut from old, of which k rows from i on are taken
  module _ (o : Order) (n i k rest : ℕ) (old : List T) (len : length old ≡ (rest + k) * n) (le : i ≤ rest) where
    cut_from : (new : List T) → RowsWidened o rest n i k new old → (kept : List T) → ((x : ℕ) → x < rest * n → slice_get kept x ≡ slice_get new x) → table_of o rest n kept ≡ without_rows i k (table_of o (rest + k) n old)
    cut_from new wide kept same =
        table-take o (rest + k) n i k rest (table_of o (rest + k) n old) kept refl (rows-tabulate (rest + k) n _) (width-table_of o (rest + k) n old len) (omega arith)
        (λ r c lr lt lc. same (place o rest n r c) (place_within o rest n r c lt lc)
        ∙ (sym (wide.before r c lr lt lc) ∙ sym (cell-table_of o (rest + k) n old len r c (omega arith) lc)))
        (λ r c ge lt lc. same (place o rest n r c) (place_within o rest n r c lt lc)
        ∙ (sym (wide.after r c ge lt lc) ∙ sym (cell-table_of o (rest + k) n old len (k + r) c (omega arith) lc)))

    -- the rows that are taken
    rows-part : row_count (take k (drop i (table_of o (rest + k) n old))) ≡ k
    rows-part =
        length-take-le k (drop i (table_of o (rest + k) n old))
        (omega (arith, length-drop i (table_of o (rest + k) n old), rows-tabulate (rest + k) n (λ r c. slice_get old (place o (rest + k) n r c))))

    row-part : (j : ℕ) → j < k → row (take k (drop i (table_of o (rest + k) n old))) j ≡ row (table_of o (rest + k) n old) (i + j)
    row-part j lt =
        let t = table_of o (rest + k) n old in
        get_or-same (take k (drop i t)) t j (i + j) [] (get-take k (drop i t) j lt ∙ get-drop i t (i + j) j refl)

    width-part : (j : ℕ) → j < k → length (row (take k (drop i (table_of o (rest + k) n old))) j) ≡ n
    width-part j lt = ap length (row-part j lt) ∙ width-table_of o (rest + k) n old len (i + j) (omega arith)

    table-part : 0 < n → IsTable (take k (drop i (table_of o (rest + k) n old)))
    table-part some =
        record {
          nonempty = λ j lt. omega (arith, width-part j (omega (arith, rows-part)));
          even = λ j lt. width-part j (omega (arith, rows-part)) ∙ sym (width-part 0 (omega (arith, rows-part)));
        }

    cols-part : 0 < k → col_count (take k (drop i (table_of o (rest + k) n old))) ≡ n
    cols-part some = width-part 0 some

    part_behind : (p q a g : ℕ) (after : List T) → RowGroups o rest n i k p q a g → Woven p q a g after old → 0 < n → 0 < k → drop (rest * n) after ≡ storage o (take k (drop i (table_of o (rest + k) n old)))
    part_behind p q a g after e w wide some =
        let t = table_of o (rest + k) n old in
        let lines = take k (drop i t) in
        let h = table-part wide in
        let size : length (storage o lines) ≡ row_count lines * col_count lines = length-storage o lines h in
        let product : row_count lines * col_count lines ≡ k * n = ap (λ x. x * col_count lines) rows-part ∙ ap (λ x. k * x) (cols-part some) in
        let behind : length (drop (rest * n) after) ≡ k * n = omega (arith, length-drop (rest * n) after, w.lengths, len) in
        same_cells (drop (rest * n) after) (storage o lines) (omega arith)
        (λ x lt.
        let f = has_place o k n x (omega arith) in
        get-drop (rest * n) after (rest * n + x) x refl
        ∙ (ap (λ y. slice_get after (rest * n + y)) (sym f.is)
        ∙ (sym (rows_woven o rest n i k p q a g after old e w f.r f.c f.lr f.lc)
        ∙ (sym (cell-table_of o (rest + k) n old len (i + f.r) f.c (omega (arith, f.lr)) f.lc)
        ∙ (ap (λ v. slice_get v f.c) (sym (row-part f.r f.lr))
        ∙ (sym (get-storage_at o k n lines f.r f.c h rows-part (cols-part some) f.lr f.lc) ∙ ap (slice_get (storage o lines)) f.is))))))

  -- taking k rows from row i on of a table of m rows
  module _ (o : Order) (m n i k rest : ℕ) (old : List T) (size : rest + k ≡ m) (len : length old ≡ m * n) (le : i + k ≤ m) where
    length_old : length old ≡ (rest + k) * n
    length_old = len ∙ ap (λ x. x * n) (sym size)

    -- the groups go after the lines
    pub view-without_rows : (p q a g : ℕ) (after : List T) → RowGroups o rest n i k p q a g → Woven p q a g after old → table_of o rest n (take (rest * n) after) ≡ without_rows i k (table_of o m n old)
    view-without_rows p q a g after e w =
        cut_from o n i k rest old length_old (omega arith) after (rows_widened o rest n i k p q a g after old e w.lines) (take (rest * n) after) (λ x lt. get-take (rest * n) after x lt)
        ∙ ap (λ x. without_rows i k (table_of o x n old)) size

    -- and are the storage of the rows that are taken
    pub view-taken_rows : (p q a g : ℕ) (after : List T) → RowGroups o rest n i k p q a g → Woven p q a g after old → 0 < n → 0 < k → drop (rest * n) after ≡ storage o (take k (drop i (table_of o m n old)))
    view-taken_rows p q a g after e w wide some =
        part_behind o n i k rest old length_old (omega arith) p q a g after e w wide some
        ∙ ap (λ x. storage o (take k (drop i (table_of o x n old)))) size

    -- the groups are closed
    pub view-close_rows : (p q a g : ℕ) (new : List T) → RowGroups o rest n i k p q a g → Closed p q a g new old → table_of o rest n new ≡ without_rows i k (table_of o m n old)
    view-close_rows p q a g new e w =
        cut_from o n i k rest old length_old (omega arith) new (rows_widened o rest n i k p q a g new old e w.lines) new (λ x lt. refl)
        ∙ ap (λ x. without_rows i k (table_of o x n old)) size

  take-one : (v : List (List T)) (i : ℕ) → i < length v → take 1 (drop i v) ≡ row v i ∷ []
  take-one v i lt = ap (take 1) (drop_more v i [] lt)

  -- one row that is taken, in either order
  pub storage-one : (o : Order) (t : List (List T)) (i : ℕ) → IsTable t → i < row_count t → storage o (take 1 (drop i t)) ≡ row t i
  storage-one o t i h lt = ap (storage o) (take-one t i lt) ∙ storage-line o (row t i) (h.nonempty i lt)

  -- how many cells are left
  pub cells-closed : (o : Order) (m n i k p q a g : ℕ) (short long : List T) → RowGroups o m n i k p q a g → Closed p q a g short long → length short ≡ m * n
  cells-closed o m n i k p q a g short long e w = w.lengths ∙ cells-groups o m n i k p q a g e

-- a table of no rows, whatever the number of columns
pub table_of-no_rows : {T : Type 0} (o : Order) (n : ℕ) (cells : List T) → table_of o 0 n cells ≡ []
unfolding tabulate
table_of-no_rows o n cells = refl
