-- Edits of tables: lines put and taken, and padding.
use Rattle.std.specs.Prelude.{◌≡◌, ◌⊎◌, ℕ, ◌+◌, Bool, true, false, List, [], ◌∷◌, ◌++◌, length, All, ◌<◌, map, filter, take, drop, insert, replicate}
use Rattle.grid_base.specs.Table.{row, row_count, col_count}
use Rattle.grid.specs.Make.{IsOnlyDefault}

module _ {T : Type 0} where
  -- a row, or a column, of this number of cells fits a table: any fits the empty one
  abbrev pub FitsRow : List (List T) → ℕ → Type 0
  FitsRow t width = (t ≡ []) ⊎ (width ≡ col_count t)

  abbrev pub FitsCol : List (List T) → ℕ → Type 0
  FitsCol t width = (t ≡ []) ⊎ (width ≡ row_count t)

  -- lines put as rows before row i, in their order
  abbrev pub insert_rows : ℕ → List (List T) → List (List T) → List (List T)
  insert_rows i lines t = take i t ++ lines ++ drop i t

  -- the rows from start on, count of them, taken out
  abbrev pub without_rows : ℕ → ℕ → List (List T) → List (List T)
  without_rows start count t = take start t ++ drop (start + count) t

  -- each cell of the line put into its row before place i
  abbrev pub insert_into_rows : ℕ → List T → List (List T) → List (List T)
  insert_into_rows i [] t = []
  insert_into_rows i (x ∷ xs) [] = []
  insert_into_rows i (x ∷ xs) (r ∷ t) = insert r i x ∷ insert_into_rows i xs t

  -- a line put as a column before column i; into the empty table, each cell becomes a row of its
  -- own
  abbrev pub insert_col : ℕ → List T → List (List T) → List (List T)
  insert_col i line [] = map (λ x. x ∷ []) line
  insert_col i line (r ∷ t) = insert_into_rows i line (r ∷ t)

  -- lines put as columns before column i, in their order
  abbrev pub insert_cols : ℕ → List (List T) → List (List T) → List (List T)
  insert_cols i [] t = t
  insert_cols i (line ∷ lines) t = insert_col i line (insert_cols i lines t)

  -- whether a row has cells
  abbrev pub has_cells : List T → Bool
  has_cells [] = false
  has_cells (x ∷ xs) = true

  -- the columns from start on, count of them, taken out; rows that become empty leave
  abbrev pub without_cols : ℕ → ℕ → List (List T) → List (List T)
  without_cols start count t = filter has_cells
      (map (λ r. take start r ++ drop (start + count) r) t)

  -- k rows of d at the end or at the beginning of a nonempty table
  abbrev pub expanded_rows : ℕ → T → List (List T) → List (List T)
  expanded_rows k d [] = []
  expanded_rows k d (r ∷ t) = (r ∷ t) ++ replicate k (replicate (length r) d)

  abbrev pub prepended_rows : ℕ → T → List (List T) → List (List T)
  prepended_rows k d [] = []
  prepended_rows k d (r ∷ t) = replicate k (replicate (length r) d) ++ (r ∷ t)

  -- k cells d at the end or at the beginning of each row
  abbrev pub expanded_cols : ℕ → T → List (List T) → List (List T)
  expanded_cols k d t = map (λ r. r ++ replicate k d) t

  abbrev pub prepended_cols : ℕ → T → List (List T) → List (List T)
  prepended_cols k d t = map (λ r. replicate k d ++ r) t

  -- how many rows or columns padding by k adds
  abbrev pub padding_count : ℕ → List (List T) → ℕ
  padding_count k [] = 0
  padding_count k (r ∷ t) = k

  -- rows of cells of which each is as P says are put before row i: count of them, and none into the
  -- empty table. Where P holds of d alone, at the end or at the beginning, they are rows of d
  pub record PadsRows (P : T → Type 0) (i count : ℕ) (old new : List (List T)) : Type 0 where
    pub fresh : List (List T)
    pub number : row_count fresh ≡ padding_count count old
    pub widths : (j : ℕ) → j < row_count fresh → length (row fresh j) ≡ col_count old
    pub each : All (All P) fresh
    pub put : new ≡ insert_rows i fresh old
    pub at_end : i ≡ row_count old → (d : T) → IsOnlyDefault P d → new ≡ expanded_rows count d old
    pub at_start : i ≡ 0 → (d : T) → IsOnlyDefault P d → new ≡ prepended_rows count d old

  -- the same of columns before column i
  pub record PadsCols (P : T → Type 0) (i count : ℕ) (old new : List (List T)) : Type 0 where
    pub fresh : List (List T)
    pub number : row_count fresh ≡ padding_count count old
    pub heights : (j : ℕ) → j < row_count fresh → length (row fresh j) ≡ row_count old
    pub each : All (All P) fresh
    pub put : new ≡ insert_cols i fresh old
    pub rows : row_count new ≡ row_count old
    pub cols : col_count new ≡ col_count old + padding_count count old
    pub at_end : i ≡ col_count old → (d : T) → IsOnlyDefault P d → new ≡ expanded_cols count d old
    pub at_start : i ≡ 0 → (d : T) → IsOnlyDefault P d → new ≡ prepended_cols count d old
