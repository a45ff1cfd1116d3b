-- The CSV of a grid.
use Rattle.std.specs.Prelude.{◌≡◌, ℕ, List, [], ◌∷◌, ◌++◌, map, ⊤, Result, Ok, flat_map, string_bytes}
use denote.Ref.{Bor, MutBor}
use Rattle.std.specs.List.{AllZip}
use Rattle.std.specs.declared.string.String.{String}
use Rattle.std.specs.declared.alloc.AllocError.{AllocError}
use Rattle.csv.specs.Writing.{default_writer, row_text}

-- whatever the closure appends to a string at a reference to a cell, h gives
abbrev pub WritesBy : {F T Z : Type 0}
    → (F → Bor T → MutBor (String Z) → Result ⊤ AllocError → MutBor (String Z) → Type 0) → F
    → (T → List ℕ) → Type 0
WritesBy {F} {T} {Z} returns write h = (cell : Bor T) (old new : MutBor (String Z))
    → returns write cell old (Ok tt) new → string_bytes new.now ≡ string_bytes old.now ++ h cell.now

-- the closure may make this field of an empty string at a reference to a cell
pub record AnswersCell {F T Z : Type 0}
    (returns : F → Bor T → MutBor (String Z) → Result ⊤ AllocError → MutBor (String Z) → Type 0)
    (write : F) (x : T) (field : List ℕ) : Type 0 where
  pub cell : Bor T
  pub old : MutBor (String Z)
  pub new : MutBor (String Z)
  pub is_cell : cell.now ≡ x
  pub is_empty : string_bytes old.now ≡ []
  pub is_field : string_bytes new.now ≡ field
  pub appends : returns write cell old (Ok tt) new

-- the text of records, each a list of fields, with quotes where they are needed
abbrev pub sheet_text : List (List (List ℕ)) → List ℕ
sheet_text records = flat_map (row_text default_writer) records

-- records below a header of these names, if there are some
abbrev pub below_names : List (List ℕ) → List (List (List ℕ)) → List (List (List ℕ))
below_names [] records = records
below_names (name ∷ names) records = (name ∷ names) ∷ records

-- the text is the CSV of rows below these names, with the field h x for the cell x
pub record IsCsv {T : Type 0} (h : T → List ℕ) (names : List (List ℕ)) (rows : List (List T))
    (text : List ℕ) : Type 0 where
  pub is : text ≡ sheet_text (below_names names (map (map h) rows))

-- where R says which fields a cell may be written as: the text may be written of these rows
module _ {T : Type 0} (R : T → List ℕ → Type 0) where
  pub record MayWrite (rows : List (List T)) (text : List ℕ) : Type 0 where
    pub records : List (List (List ℕ))
    pub are_fields : AllZip (AllZip R) rows records
    pub is_text : text ≡ sheet_text records

  -- the same below a header of these names
  pub record MayWriteBelow (names : List (List ℕ)) (rows : List (List T))
      (text : List ℕ) : Type 0 where
    pub records : List (List (List ℕ))
    pub are_fields : AllZip (AllZip R) rows records
    pub is_text : text ≡ sheet_text (below_names names records)
