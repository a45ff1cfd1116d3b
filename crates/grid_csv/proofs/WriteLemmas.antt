-- What a writer has written, and what is written of rows.
use Rattle.std.proofs.Common.{◌≡◌, ℕ, false, List, [], ◌∷◌, ◌++◌, map, get_or, All, Vec, Global, Result, IfOk, Ok, Err, IsUtf8, ◌<◌, length, arith, refl, sym, ap, subst, ◌∙◌, append-nil, Bor, MutBor, string_bytes}
use Rattle.grid_csv.proofs.Common.{⊤, AllZip, flat_map-append, All-map, AllZip-map, IsUtf8-string_bytes, default_writer, fields_written, has_written, row_text, writer_pending, writer_setup, writer_under, HasWritten, AnswersCell, WritesBy, below_names, sheet_text}
use Rattle.std.specs.declared.string.String.{String}
use Rattle.std.specs.declared.alloc.AllocError.{AllocError}
use Rattle.csv.specs.declared.writer.Writer.{Writer}
use Rattle.grid_csv.proofs.ZipLemmas.{zip_more, zip_right}

pub writer_start : (w : Writer (Vec ℕ Global)) (v : Vec ℕ Global) → writer_under w ≡ v → v.items ≡ [] → writer_pending w ≡ [] → writer_setup w ≡ default_writer → fields_written w ≡ 0 → has_written w ≡ false → HasWritten w []
writer_start w v under items pending setup fields wrote = record {
  setup = setup;
  no_fields = fields;
  no_bytes = wrote;
  is_written = ap (λ (x : Vec ℕ Global). x.items ++ writer_pending w) under ∙ (ap (λ xs. xs ++ writer_pending w) items ∙ pending);
}

pub written_text : (w : Writer (Vec ℕ Global)) (bytes : List ℕ) (r : Result (String Global) AllocError) → HasWritten w bytes → IfOk r (λ text. HasWritten w (string_bytes text)) → IfOk r (λ text. string_bytes text ≡ bytes)
written_text w bytes (Ok text) has is = sym is.is_written ∙ has.is_written
written_text w bytes (Err e) has is = tt

-- what may be written is what a function writes, where it gives whatever may be written
module _ {T : Type 0} (R : T → List ℕ → Type 0) (h : T → List ℕ) (by : (x : T) (field : List ℕ) → R x field → field ≡ h x) where
  line_is : (row : List T) (fields : List (List ℕ)) → AllZip R row fields → fields ≡ map h row
  line_is row fields all = AllZip-map h row fields (zip_more R (λ x f. f ≡ h x) by row fields all)

  pub lines_are : (rows : List (List T)) (records : List (List (List ℕ))) → AllZip (AllZip R) rows records → records ≡ map (map h) rows
  lines_are rows records all = AllZip-map (map h) rows records (zip_more (AllZip R) (λ row fields. fields ≡ map h row) line_is rows records all)

pub strings_utf8 : {Z : Type 0} (names : List (String Z)) → All IsUtf8 (map string_bytes names)
strings_utf8 names = All-map IsUtf8 string_bytes names (λ i d lt. IsUtf8-string_bytes (get_or names i d))

-- one record more
pub sheet_more : (records : List (List (List ℕ))) (fields : List (List ℕ)) → sheet_text records ++ row_text default_writer fields ≡ sheet_text (records ++ fields ∷ [])
sheet_more records fields =
    sym (flat_map-append (row_text default_writer) records (fields ∷ []) ∙ ap (λ xs. sheet_text records ++ xs) (append-nil (row_text default_writer fields)))

module _ {F T Z : Type 0} (returns : F → Bor T → MutBor (String Z) → Result ⊤ AllocError → MutBor (String Z) → Type 0) (write : F) where
  pub field_utf8 : (x : T) (field : List ℕ) → AnswersCell returns write x field → IsUtf8 field
  field_utf8 x field a = subst IsUtf8 a.is_field (IsUtf8-string_bytes a.new.now)

  pub records_utf8 : (rows : List (List T)) (records : List (List (List ℕ))) → AllZip (AllZip (AnswersCell returns write)) rows records → All (All IsUtf8) records
  records_utf8 rows records all = zip_right (AllZip (AnswersCell returns write)) (All IsUtf8) (λ row fields zip. zip_right (AnswersCell returns write) IsUtf8 field_utf8 row fields zip) rows records all

  -- the field that a function gives
  pub field_is : (h : T → List ℕ) → WritesBy returns write h → (x : T) (field : List ℕ) → AnswersCell returns write x field → field ≡ h x
  field_is h by x field a = sym a.is_field ∙ (by a.cell a.old a.new a.appends ∙ (ap (λ xs. xs ++ h a.cell.now) a.is_empty ∙ ap h a.is_cell))

-- a header
pub some_names : {Z : Type 0} (header : List (String Z)) → 0 < length header → row_text default_writer (map string_bytes header) ≡ sheet_text (below_names (map string_bytes header) [])
some_names [] some = absurd (omega arith)
some_names (name ∷ header) some = sym (append-nil (row_text default_writer (map string_bytes (name ∷ header))))

-- records after their header
pub below_joined : (names : List (List ℕ)) (records : List (List (List ℕ))) → sheet_text (below_names names []) ++ sheet_text records ≡ sheet_text (below_names names records)
below_joined [] records = refl
below_joined (name ∷ names) records = ap (λ xs. xs ++ sheet_text records) (append-nil (row_text default_writer (name ∷ names)))

pub ok_more : {A E : Type 0} (P Q : A → Type 0) → ((x : A) → P x → Q x) → (r : Result A E) → IfOk r P → IfOk r Q
ok_more P Q more (Ok x) h = more x h
ok_more P Q more (Err e) h = tt
