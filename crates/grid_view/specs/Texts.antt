-- The texts of a table: for debugging, as lines, and with numbers below one another.
use Rattle.std.specs.Prelude.{ℕ, ℤ, ◌-◌, ◌++◌, Option, None, Some, List, [], ◌∷◌, length, map, replicate, codes, max, flat_map}
use Rattle.std.specs.List.{join_by}
use Rattle.std.specs.Fmt.{◌++?◌, debug_list, signed_decimal}
use Rattle.grid_base.specs.Table.{concat_rows}

module _ {T : Type 0} (text : T → Option (List ℕ)) where
  -- each row as a debug list, with nothing between two
  abbrev pub rows_text : List (List T) → Option (List ℕ)
  rows_text [] = Some []
  rows_text (row ∷ t) = debug_list text row ++? rows_text t

  -- the debug text of a table
  abbrev pub table_text : List (List T) → Option (List ℕ)
  table_text t = Some (codes "[") ++? rows_text t ++? Some (codes "]")

module _ {X : Type 0} (text : X → Option (List ℕ)) (between : List ℕ) where
  -- the text of each item, the first after `lead` and each other after what is between two
  abbrev pub items_text : List ℕ → List X → Option (List ℕ)
  items_text lead [] = Some []
  items_text lead (x ∷ xs) = Some lead ++? text x ++? items_text between xs

-- the rows with a line feed between two, and in each the cells with a space between two
abbrev pub lines_text : {T : Type 0} → (T → Option (List ℕ)) → List (List T) → Option (List ℕ)
lines_text text t = items_text (items_text text (codes " ") []) (codes "\n") [] t

-- the cells as numbers
abbrev pub numbers : {T : Type 0} → (T → ℤ) → List (List T) → List (List ℤ)
numbers whole t = map (λ row. map whole row) t

-- the length of the longest number
abbrev pub longest : List ℤ → ℕ
longest [] = 0
longest (z ∷ zs) = max (length (signed_decimal z)) (longest zs)

-- a number after as many spaces as fill the width; a longer one is written in full
abbrev pub right_aligned : ℕ → ℤ → List ℕ
right_aligned width z = replicate (width - length (signed_decimal z)) 32 ++ signed_decimal z

-- the line of a row: four spaces, `[`, each number after a space and with a comma between two, `]`
-- and a line end
abbrev pub row_line : ℕ → List ℤ → List ℕ
row_line width zs = codes "    [" ++ join_by (λ z. codes " " ++ right_aligned width z) (codes ",")
    zs ++ codes "]\n"

-- the pretty text of a table of integers in a width
abbrev pub text_in_width : ℕ → List (List ℤ) → List ℕ
text_in_width width [] = codes "[]"
text_in_width width (row ∷ t) = codes "[\n" ++ flat_map (row_line width) (row ∷ t) ++ codes "]"

-- without a width it is the length of the longest number
abbrev pub width_or_longest : Option ℕ → List (List ℤ) → ℕ
width_or_longest None t = longest (concat_rows t)
width_or_longest (Some width) t = width

abbrev pub pretty_text : Option ℕ → List (List ℤ) → List ℕ
pretty_text width t = text_in_width (width_or_longest width t) t
