-- The names in a header, as strings.
use Rattle.std.proofs.Common.{◌≡◌, ◌+◌, ◌⊎◌, inl, inr, ℕ, Bool, true, false, if◌then◌else◌, Option, Some, None, Result, Ok, Err, List, [], ◌∷◌, ◌++◌, length, map, refl, sym, ap, subst, ◌∙◌, Bor, MatchBool, string_bytes}
use Rattle.grid_csv.proofs.Common.{is_utf8, concat_rows, GridValue, AreCells, MayRead, MayReadBelow, cell_before, cell_of, read_fields, read_header, AddsCells, IsMemoryOrBad}
use Rattle.grid_rows.specs.Rows.{RowsValue}
use Rattle.std.specs.declared.string.String.{String}
use Rattle.grid_csv.specs.declared.error.CsvError.{CsvError}
use Rattle.grid_csv.specs.declared.error.CsvError.TheVariants.{Memory}
use Rattle.grid_csv.proofs.ReadLemmas.{fields_are, bad_at}

-- a field as its name
abbrev IsName : List ℕ → Option (List ℕ) → Type 0
IsName field name = name ≡ cell_of Some field

-- a field that is text is answered by a string of it, and another by none
abbrev Names : {Z : Type 0} → List ℕ → Option (String Z) → Type 0
Names {Z} field cell = MatchBool (is_utf8 field)
    ((text : Bor (List ℕ)) × (text.now ≡ field) × ((s : String Z) × (cell ≡ Some s) × (string_bytes s ≡ text.now))) (cell ≡ None)

module _ {Z : Type 0} (R : List ℕ → Option (String Z) → Type 0) where
  name_of : Option (String Z) → Option (List ℕ)
  name_of None = None
  name_of (Some s) = Some (string_bytes s)

  abbrev By : Type 0
  By = (field : List ℕ) (cell : Option (String Z)) → R field cell → Names field cell

  name_is : By → (field : List ℕ) (cell : Option (String Z)) → R field cell → name_of cell ≡ cell_of Some field
  unfolding name_of
  name_is by field cell may = by_test (is_utf8 field) (by field cell may)
    where
      by_test : (b : Bool) → MatchBool b ((text : Bor (List ℕ)) × (text.now ≡ field) × ((s : String Z) × (cell ≡ Some s) × (string_bytes s ≡ text.now))) (cell ≡ None) → name_of cell ≡ (if b then Some field else None)
      by_test true (text, now, (s, is, bytes)) = ap name_of is ∙ ap Some (bytes ∙ now)
      by_test false none = ap name_of none

  names_are : By → (fields : List (List ℕ)) (strings : List (String Z)) → AreCells R fields strings → AreCells IsName fields (map string_bytes strings)
  unfolding name_of
  names_are by [] [] all = tt
  names_are by [] (s ∷ strings) all = absurd all
  names_are by (f ∷ fields) [] all = absurd all
  names_are by (f ∷ fields) (s ∷ strings) all = (name_is by f (Some s) all.0, names_are by fields strings all.1)

  pub header_is : (fields : List (List ℕ)) (start b : RowsValue (String Z)) (new : List (String Z)) → start ≡ record { cols = None; rows = []; cells = [] } → AddsCells R fields start b → new ≡ concat_rows b.rows ++ b.cells → By → read_header fields ≡ Ok (map string_bytes new)
  header_is fields start b new none a is by =
      let row : new ≡ a.row = is ∙ (ap (λ v. concat_rows v.rows ++ v.cells) a.put ∙ ap (λ v. concat_rows v.rows ++ (v.cells ++ a.row)) none) in
      fields_are IsName Some (λ field name is. is) 1 1 fields (map string_bytes a.row) (names_are by fields a.row a.are_cells)
      ∙ ap (λ xs. Ok (map string_bytes xs)) (sym row)

  pub header_bad : (fields : List (List ℕ)) (e : CsvError) → IsMemoryOrBad R 1 fields e → By → (e ≡ Memory) ⊎ (read_header fields ≡ Err e)
  unfolding name_of
  header_bad fields e (inl none) by = inl none
  header_bad fields e (inr (place, is, bad)) by = inr (bad_at IsName Some (λ field name is. is) 1 place fields (record {
    before = bad.before;
    field = bad.field;
    after = bad.after;
    cells = map string_bytes bad.cells;
    parts = bad.parts;
    is_place = bad.is_place;
    are_cells = names_are by bad.before bad.cells bad.are_cells;
    bad = name_is by bad.field None bad.bad;
  }) ∙ ap Err (sym is))

-- what is answered below a header, where these fields are the first record
module _ {T : Type 0} (R : List ℕ → Option T → Type 0) (records : List (List (List ℕ))) (fields : List (List ℕ)) (later : List (List (List ℕ))) (next : records ≡ fields ∷ later) where
  given : (answer : Result (GridValue T) CsvError) → MayReadBelow R (fields ∷ later) answer → MayReadBelow R records answer
  given answer may = subst (λ rs. MayReadBelow R rs answer) (sym next) may

  pub below_bad_header : (e : CsvError) → (e ≡ Memory) ⊎ (read_header fields ≡ Err e) → MayReadBelow R records (Err e)
  below_bad_header e (inl none) = inl (ap Err none)
  below_bad_header e (inr bad) = given (Err e) (inr (rw bad refl))

  pub below_rows : (names : List (List ℕ)) (cols : ℕ) → read_header fields ≡ Ok names → cols ≡ length fields → (answer : Result (GridValue T) CsvError) → MayRead R 2 cols later answer → MayReadBelow R records answer
  below_rows names cols read same answer may = given answer (inr (rw read (subst (λ n. MayRead R 2 n later answer) same may)))

-- a header that was read has its fields for names
name_before : (b : Bool) (number place : ℕ) (f : List ℕ) (later : Result (List (List ℕ)) CsvError) (fs names : List (List ℕ)) → cell_before number place (if b then Some f else None) later ≡ Ok names → ((rest : List (List ℕ)) → later ≡ Ok rest → rest ≡ fs) → names ≡ f ∷ fs
name_before true number place f (Ok rest) fs names e more =
    let is : f ∷ rest ≡ names = cc in
    sym is ∙ ap (λ xs. f ∷ xs) (more rest refl)
name_before true number place f (Err x) fs names e more = absurd (cc)
name_before false number place f later fs names e more = absurd (cc)

names_read : (number place : ℕ) (fields names : List (List ℕ)) → read_fields Some number place fields ≡ Ok names → names ≡ fields
names_read number place [] names e = cc
names_read number place (f ∷ fs) names e =
    name_before (is_utf8 f) number place f (read_fields Some number (place + 1) fs) fs names e (λ rest is. names_read number (place + 1) fs rest is)

pub header_names : (fields names : List (List ℕ)) → read_header fields ≡ Ok names → names ≡ fields
header_names fields names e = names_read 1 1 fields names e
