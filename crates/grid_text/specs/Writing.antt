-- The text of a grid.
use Rattle.std.specs.Prelude.{◌≡◌, ℕ, ℤ, List, [], ◌∷◌, ◌++◌, map, encode_utf8, encode_utf8_all, codes}
use denote.Ref.{Bor}
use Rattle.std.specs.List.{flat_map, join_by}
use Rattle.std.specs.Fmt.{signed_decimal}

-- whatever the closure answers at a reference to a cell, h gives
abbrev pub WritesBy : {F T : Type 0} → (F → Bor T → ℕ → Type 0) → F → (T → ℕ) → Type 0
WritesBy {F} {T} returns write h = (cell : Bor T) (c : ℕ) → returns write cell c → c ≡ h cell.now

-- the closure may answer so at a reference to a cell
abbrev pub AnswersCell : {F T : Type 0} → (F → Bor T → ℕ → Type 0) → F → T → ℕ → Type 0
AnswersCell {T = T} returns write x c = (p : Bor T) × (p.now ≡ x) × returns write p c

-- where R says which characters a cell may be written as: what may be written of the cells of a row,
-- and of rows, each with a line feed
module _ {T : Type 0} (R : T → ℕ → Type 0) where
  abbrev pub MayWriteLine : List T → List ℕ → Type 0
  MayWriteLine [] text = text ≡ []
  MayWriteLine (x ∷ row) text = (c : ℕ) × (later : List ℕ) × R x c × MayWriteLine row later
      × (text ≡ encode_utf8 c ++ later)

  abbrev pub MayWriteRows : List (List T) → List ℕ → Type 0
  MayWriteRows [] text = text ≡ []
  MayWriteRows (row ∷ rows) text = (line : List ℕ) × (later : List ℕ) × MayWriteLine row line
      × MayWriteRows rows later × (text ≡ line ++ 10 ∷ later)

module _ {T : Type 0} (h : T → ℕ) where
  -- the characters of the cells of a row
  abbrev pub line_text : List T → List ℕ
  line_text row = encode_utf8_all (map h row)

  -- a line for each row, each with a line feed
  abbrev pub table_text : List (List T) → List ℕ
  table_text rows = flat_map (λ row. line_text row ++ 10 ∷ []) rows

-- numbers in decimals, with a space between two
abbrev pub line_of_numbers : List ℤ → List ℕ
line_of_numbers zs = join_by signed_decimal (codes " ") zs

-- a line for each row of numbers, each with a line feed
abbrev pub numbers_text : List (List ℤ) → List ℕ
numbers_text rows = flat_map (λ row. line_of_numbers row ++ 10 ∷ []) rows
