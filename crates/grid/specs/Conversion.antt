-- Cells joined and cut into rows, and rows of one length as a table.
use Rattle.std.specs.Prelude.{◌≡◌, ◌≢◌, ◌==◌, if◌then◌else◌, ℕ, ◌^◌, ◌<◌, ◌≤◌, List, [], length, Result, MatchResult}
use Rattle.grid_base.specs.Prelude.{row, row_count, col_count, concat_rows, CanCut, GridValue, ClonesAreEqual}
use Rattle.std.specs.List.{AllZip}
use Rattle.grid_base.specs.declared.order.Order.TheVariants.{RowMajor}
use Rattle.grid_commands.specs.declared.error.ShapeError.{ShapeError}
use Rattle.grid_commands.specs.declared.error.ShapeError.TheVariants.{TooLarge, Shape, Ragged, Memory}

-- why `len` cells could not be cut into rows of n: the cells of one vector are never too many, and
-- rows that are cut are never ragged; memory says when allocation may fail
abbrev pub CutFault : Type 0 → ℕ → ℕ → ShapeError → Type 0
CutFault memory len n TooLarge = ⊥
CutFault memory len n (Shape l cols) = (¬ CanCut len n) × (l ≡ len) × (cols ≡ n)
CutFault memory len n (Ragged r l cols) = ⊥
CutFault memory len n Memory = memory

module _ {T : Type 0} where
  -- a row-major grid of `len` cells in rows of n
  pub record HasShape (len n : ℕ) (g : GridValue T) : Type 0 where
    pub order : g.order ≡ RowMajor
    pub count : length (concat_rows g.rows) ≡ len
    pub cols : len ≢ 0 → col_count g.rows ≡ n

  -- clones of these cells, which are the same where clones equal their source
  pub record AreClones (is_clone : T → T → Type 0) (cells found : List T) : Type 0 where
    pub each : AllZip is_clone cells found
    pub same : ClonesAreEqual is_clone → found ≡ cells

  -- all rows have one length
  abbrev pub AreEven : List (List T) → Type 0
  AreEven rows = (r : ℕ) → r < row_count rows → length (row rows r) ≡ col_count rows

  -- row r is the first whose length is not that of row 0
  pub record IsFirstRagged (rows : List (List T)) (r : ℕ) : Type 0 where
    pub within : r < row_count rows
    pub ragged : length (row rows r) ≢ col_count rows
    pub before : (k : ℕ) → k < r → length (row rows k) ≡ col_count rows

  -- rows of one length as a table: the rows themselves, or none where they have no cells
  abbrev pub equal_rows : List (List T) → List (List T)
  equal_rows rows = if col_count rows == 0 then [] else rows

  -- the same of rows of one length and a table
  pub record AreClonedRows (is_clone : T → T → Type 0) (rows t : List (List T)) : Type 0 where
    pub each : AllZip is_clone (concat_rows rows) (concat_rows t)
    pub same : ClonesAreEqual is_clone → t ≡ equal_rows rows

  -- all rows have one length, and a vector can hold their cells
  pub record CanJoin (rows : List (List T)) : Type 0 where
    pub even : AreEven rows
    pub below : length (concat_rows rows) < 2 ^ 64

  -- why rows could not be made a grid: the lengths are tested first, then the number of cells, and
  -- memory comes last
  abbrev pub RowsFault : List (List T) → ShapeError → Type 0
  RowsFault rows TooLarge = AreEven rows × (2 ^ 64 ≤ length (concat_rows rows))
  RowsFault rows (Shape len cols) = ⊥
  RowsFault rows (Ragged r len cols) = IsFirstRagged rows r × (len ≡ length (row rows r))
      × (cols ≡ col_count rows)
  RowsFault rows Memory = CanJoin rows

  -- what a conversion of rows answers: equal rows, of which the grid has those that P says, or why
  -- not
  abbrev pub RowsAnswer : List (List T) → (List (List T) → Type 0) → Result (GridValue T) ShapeError
      → Type 0
  RowsAnswer rows P r = MatchResult r (λ g. CanJoin rows
      × HasShape (length (concat_rows rows)) (col_count rows) g × P g.rows) (RowsFault rows)

  -- what a conversion of cells answers: the cut, of which the grid has those cells that P says, or
  -- why not
  abbrev pub CutAnswer : Type 0 → List T → ℕ → (List T → Type 0) → Result (GridValue T) ShapeError
      → Type 0
  CutAnswer memory cells n P r = MatchResult r
      (λ g. CanCut (length cells) n × HasShape (length cells) n g × P (concat_rows g.rows))
      (CutFault memory (length cells) n)
