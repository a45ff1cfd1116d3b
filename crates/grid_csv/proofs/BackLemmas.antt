-- The text of records is read as these records.
use Rattle.std.proofs.Common.{◌≡◌, inl, inr, ℕ, suc, ◌<◌, ◌==◌, Bool, true, false, if◌then◌else◌, List, [], ◌∷◌, ◌++◌, length, All, None, refl, sym, ap, ◌∙◌, arith, append_assoc}
use Rattle.grid_csv.proofs.Common.{list_any, cases_Bool, next_record, default_config, is_bom, strip_bom, default_writer, field_text, fields_text, is_blank, needs_byte, read_back, row_text, read-write, records_at, first_of, records_of, sheet_text}
use Rattle.grid_csv.proofs.RecordLemmas.{records_first, records_none}
use Rattle.csv.specs.declared.parser.State.TheVariants as st

back_is : (fields : List (List ℕ)) → 0 < length fields → read_back fields ≡ fields
back_is [] some = absurd (omega arith)
back_is (x ∷ fields) some = refl

no_records : next_record default_config st.StartRecord [] [] [] ≡ None
unfolding next_record
no_records = refl

records_back : (sheet : List (List (List ℕ))) → All (λ fields. 0 < length fields) sheet → records_at st.StartRecord (sheet_text sheet) ≡ sheet
records_back [] all = records_none st.StartRecord [] no_records
records_back (fields ∷ sheet) all =
    records_first st.StartRecord (sheet_text (fields ∷ sheet)) (read_back fields, st.StartRecord, sheet_text sheet) (read-write fields (sheet_text sheet))
    ∙ (ap (λ f. f ∷ records_at st.StartRecord (sheet_text sheet)) (back_is fields (all 0 fields (omega arith)))
    ∙ ap (λ rs. fields ∷ rs) (records_back sheet (λ i d lt. all (suc i) d (omega arith))))

-- ---- no byte order mark comes from the text

-- bytes that do not begin as a mark does
head_kept : (a : ℕ) (rest : List ℕ) → (a == 0xEF) ≡ false → strip_bom (a ∷ rest) ≡ a ∷ rest
unfolding strip_bom
head_kept a [] ne = refl
head_kept a (b ∷ []) ne = refl
head_kept a (b ∷ c ∷ rest) ne = rw ne refl

-- a byte after which no mark goes on
record Parts (t : ℕ) : Type 0 where
  first : (t == 0xEF) ≡ false
  second : (t == 0xBB) ≡ false
  third : (t == 0xBF) ≡ false

marked : (a b c : ℕ) (rest : List ℕ) (m : Bool) → (if m then rest else a ∷ b ∷ c ∷ rest) ≡ a ∷ b ∷ c ∷ rest → m ≡ false
marked a b c rest true e = absurd (omega (arith, ap length e))
marked a b c rest false e = refl

kept_before : (x : List ℕ) (t : ℕ) (rest : List ℕ) → strip_bom x ≡ x → Parts t → strip_bom (x ++ t ∷ rest) ≡ x ++ t ∷ rest
unfolding strip_bom
kept_before [] t rest kept p = head_kept t rest p.first
kept_before (a ∷ []) t [] kept p = refl
kept_before (a ∷ []) t (b ∷ rest) kept p = elim (cases_Bool (a == 0xEF)) [
  | inl is ↦ rw (is, p.second) refl
  | inr not ↦ rw not refl
]
kept_before (a ∷ b ∷ []) t rest kept p = elim (cases_Bool (a == 0xEF)) [
  | inl is ↦ elim (cases_Bool (b == 0xBB)) [
    | inl is2 ↦ rw (is, is2, p.third) refl
    | inr not ↦ rw (is, not) refl
  ]
  | inr not ↦ rw not refl
]
kept_before (a ∷ b ∷ c ∷ x) t rest kept p =
    let m : is_bom a b c ≡ false = marked a b c x (is_bom a b c) kept in
    rw m refl

-- what is after the first field of a record begins with a comma, a quote or a line feed
record Begins (text : List ℕ) : Type 0 where
  byte : ℕ
  rest : List ℕ
  is : text ≡ byte ∷ rest
  parts : Parts byte

behind : (x : List ℕ) (xs : List (List ℕ)) (rest : List ℕ) → Begins (fields_text default_writer xs ++ (((if is_blank default_writer (x ∷ xs) then 34 ∷ 34 ∷ [] else []) ++ 10 ∷ []) ++ rest))
unfolding fields_text is_blank
behind x [] rest = elim (cases_Bool (length (field_text default_writer x) == 0)) [
  | inl none ↦ rw none (record { byte = 34; rest = 34 ∷ 10 ∷ rest; is = refl; parts = record { first = refl; second = refl; third = refl } })
  | inr some ↦ rw some (record { byte = 10; rest = rest; is = refl; parts = record { first = refl; second = refl; third = refl } })
]
behind x (y ∷ ys) rest = record {
  byte = 44;
  rest = _;
  is = refl;
  parts = record { first = refl; second = refl; third = refl };
}

quoted_kept : (x : List ℕ) (xs : List (List ℕ)) (rest : List ℕ) → list_any (needs_byte default_writer) x ≡ true → strip_bom (row_text default_writer (x ∷ xs) ++ rest) ≡ row_text default_writer (x ∷ xs) ++ rest
quoted_kept x xs rest needs = rw needs (head_kept 34 _ refl)

plain_kept : (x : List ℕ) (xs : List (List ℕ)) (rest : List ℕ) → list_any (needs_byte default_writer) x ≡ false → strip_bom x ≡ x → strip_bom (row_text default_writer (x ∷ xs) ++ rest) ≡ row_text default_writer (x ∷ xs) ++ rest
plain_kept x xs rest plain kept =
    let text : field_text default_writer x ≡ x = rw plain refl in
    let end : List ℕ = (if is_blank default_writer (x ∷ xs) then 34 ∷ 34 ∷ [] else []) ++ 10 ∷ [] in
    let b : Begins (fields_text default_writer xs ++ (end ++ rest)) = behind x xs rest in
    let parted : row_text default_writer (x ∷ xs) ++ rest ≡ x ++ b.byte ∷ b.rest =
    append_assoc (field_text default_writer x ++ fields_text default_writer xs) end rest
    ∙ (append_assoc (field_text default_writer x) (fields_text default_writer xs) (end ++ rest)
    ∙ (ap (λ y. y ++ (fields_text default_writer xs ++ (end ++ rest))) text ∙ ap (λ y. x ++ y) b.is)) in
    ap strip_bom parted ∙ (kept_before x b.byte b.rest kept b.parts ∙ sym parted)

row_kept : (x : List ℕ) (xs : List (List ℕ)) (rest : List ℕ) → strip_bom x ≡ x → strip_bom (row_text default_writer (x ∷ xs) ++ rest) ≡ row_text default_writer (x ∷ xs) ++ rest
row_kept x xs rest kept = elim (cases_Bool (list_any (needs_byte default_writer) x)) [
  | inl needs ↦ quoted_kept x xs rest needs
  | inr plain ↦ plain_kept x xs rest plain kept
]

-- what is written of records is read as these records, where each has a field, and where the first field
-- does not begin with a byte order mark
pub sheet_back : (sheet : List (List (List ℕ))) → All (λ fields. 0 < length fields) sheet → ((x : List ℕ) (xs : List (List ℕ)) → first_of sheet ≡ x ∷ xs → strip_bom x ≡ x) → records_of (sheet_text sheet) ≡ sheet
unfolding strip_bom
sheet_back [] all kept = records_back [] all
sheet_back ([] ∷ sheet) all kept = absurd (omega (arith, all 0 [] (omega arith)))
sheet_back ((x ∷ xs) ∷ sheet) all kept =
    ap (records_at st.StartRecord) (row_kept x xs (sheet_text sheet) (kept x xs refl)) ∙ records_back ((x ∷ xs) ∷ sheet) all
