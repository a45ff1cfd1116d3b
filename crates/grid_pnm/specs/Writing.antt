-- The bytes of a board as a picture.
use Rattle.std.specs.Prelude.{◌≡◌, ℕ, List, ◌∷◌, ◌++◌, length, map, codes, flat_map, decimal}
use denote.Ref.{Bor}
use Rattle.std.specs.List.{AllZip}
use Rattle.grid_base.specs.Table.{row_count, col_count, concat_rows}

-- whatever the closure answers at a reference to a cell, h gives
abbrev pub WritesBy : {F T X : Type 0} → (F → Bor T → X → Type 0) → F → (T → X) → Type 0
WritesBy {F} {T} {X} returns write h = (cell : Bor T) (x : X) → returns write cell x → x ≡ h cell.now

-- the closure may answer so at a reference to a cell
abbrev pub AnswersCell : {F T X : Type 0} → (F → Bor T → X → Type 0) → F → T → X → Type 0
AnswersCell {T = T} returns write x answer = (p : Bor T) × (p.now ≡ x) × returns write p answer

-- the same, with an answer of three samples
abbrev pub AnswersColor : {F T : Type 0} → (F → Bor T → List ℕ → Type 0) → F → T → List ℕ → Type 0
AnswersColor returns write x color = AnswersCell returns write x color × (length color ≡ 3)

-- a raw picture of m rows and n columns: the magic number, a line feed, the numbers of columns and of
-- rows with a space between them, a line feed, 255, a line feed, and the samples
abbrev pub raw_picture : List ℕ → ℕ → ℕ → List ℕ → List ℕ
raw_picture magic m n samples = magic ++ 10 ∷ (decimal n ++ 32 ∷ (decimal m
    ++ 10 ∷ (decimal 255 ++ 10 ∷ samples)))

module _ {T : Type 0} where
  -- a gray picture, where h x is the sample of the cell x: row by row
  abbrev pub pgm_bytes : (T → ℕ) → List (List T) → List ℕ
  pgm_bytes h rows = raw_picture (codes "P5") (row_count rows) (col_count rows)
      (flat_map (λ row. map h row) rows)

  -- a colored picture, where h x are the samples of the cell x
  abbrev pub ppm_bytes : (T → List ℕ) → List (List T) → List ℕ
  ppm_bytes h rows = raw_picture (codes "P6") (row_count rows) (col_count rows)
      (flat_map (λ row. flat_map h row) rows)

-- where R says which samples a cell may have: a gray picture of these rows, with such a sample for
-- each cell, row by row
pub record MayDrawGrays {T : Type 0} (R : T → ℕ → Type 0) (rows : List (List T))
    (bytes : List ℕ) : Type 0 where
  pub samples : List ℕ
  pub are_samples : AllZip R (concat_rows rows) samples
  pub is_picture : bytes ≡ raw_picture (codes "P5") (row_count rows) (col_count rows) samples

-- the same of a colored picture, with the samples of such a color for each cell
pub record MayDrawColors {T : Type 0} (R : T → List ℕ → Type 0) (rows : List (List T))
    (bytes : List ℕ) : Type 0 where
  pub colors : List (List ℕ)
  pub are_colors : AllZip R (concat_rows rows) colors
  pub is_picture : bytes ≡ raw_picture (codes "P6") (row_count rows) (col_count rows)
      (concat_rows colors)

-- the table of f x for each cell x
abbrev pub table_map : {T X : Type 0} → (T → X) → List (List T) → List (List X)
table_map f rows = map (λ row. map f row) rows
