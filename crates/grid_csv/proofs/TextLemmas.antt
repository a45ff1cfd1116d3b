-- The text of records of texts is text.
use Rattle.std.proofs.Common.{◌≡◌, inl, inr, ℕ, suc, ◌<◌, ◌==◌, Bool, true, false, if◌then◌else◌, List, [], ◌∷◌, ◌++◌, get_or, All, IsUtf8, encode_utf8, encode_utf8_all, refl, sym, ap, subst, ◌∙◌, arith, append-nil, eqb-true, ne_eqb}
use Rattle.grid_csv.proofs.Common.{scalars, IsScalar, list_any, NoCharPasses, and_parts, cases_Bool, cases_lt, get_or_default, IsUtf8-append, IsUtf8-encode, IsUtf8-nil, NoCharPasses-byte, encode_ascii, default_writer, escaped, field_text, fields_text, is_blank, needs_byte, row_text, sheet_text}

-- one ASCII character
utf8_one : (c : ℕ) → IsScalar c → c < 128 → IsUtf8 (c ∷ [])
utf8_one c scalar small = subst IsUtf8 (encode_ascii c small) (IsUtf8-encode c scalar)

escaped-append : (xs ys : List ℕ) → escaped default_writer (xs ++ ys) ≡ escaped default_writer xs ++ escaped default_writer ys
unfolding escaped
escaped-append [] ys = refl
escaped-append (b ∷ xs) ys = elim (cases_Bool (b == 34)) [
  | inl is ↦ rw is (ap (λ t. 34 ∷ b ∷ t) (escaped-append xs ys))
  | inr not ↦ rw not (ap (λ t. b ∷ t) (escaped-append xs ys))
]

escaped-plain : (xs : List ℕ) → All (λ b. (b == 34) ≡ false) xs → escaped default_writer xs ≡ xs
unfolding escaped
escaped-plain [] none = refl
escaped-plain (b ∷ xs) none =
    let not : (b == 34) ≡ false = none 0 b (omega arith) in
    rw not (ap (λ t. b ∷ t) (escaped-plain xs (λ i d lt. none (suc i) d (omega arith))))

no_quote_in : (c : ℕ) → (c == 34) ≡ false → All (λ b. (b == 34) ≡ false) (encode_utf8 c)
no_quote_in c not = λ i d lt.
    let bs : List ℕ = encode_utf8 c in
    let passes : NoCharPasses (λ b. b == 34) bs = (c ∷ [], append-nil bs, (not, tt)) in
    let zero_is : get_or bs i d ≡ get_or bs i 0 = get_or_default bs i d 0 lt in
    rw zero_is (elim (cases_lt (get_or bs i 0) 128) [
      | inl low ↦ NoCharPasses-byte (λ b. b == 34) bs i passes lt low
      | inr high ↦ ne_eqb (get_or bs i 0) 34 (λ e. absurd (omega arith))
    ])

escaped_char : (c : ℕ) → IsScalar c → IsUtf8 (escaped default_writer (encode_utf8 c))
unfolding escaped
escaped_char c scalar = elim (cases_Bool (c == 34)) [
  | inl is ↦
      let e : c ≡ 34 = eqb-true c 34 is in
      let quote : IsUtf8 (34 ∷ []) = utf8_one 34 (subst IsScalar e scalar) (omega arith) in
      let text : escaped default_writer (encode_utf8 c) ≡ 34 ∷ 34 ∷ [] = ap (λ x. escaped default_writer (encode_utf8 x)) e ∙ ap (escaped default_writer) (encode_ascii 34 (omega arith)) in
      subst IsUtf8 (sym text) (IsUtf8-append (34 ∷ []) (34 ∷ []) quote quote)
  | inr not ↦ subst IsUtf8 (sym (escaped-plain (encode_utf8 c) (no_quote_in c not))) (IsUtf8-encode c scalar)
]

escaped_chars : (cs : List ℕ) → scalars cs ≡ true → IsUtf8 (escaped default_writer (encode_utf8_all cs))
unfolding escaped
escaped_chars [] all = IsUtf8-nil
escaped_chars (c ∷ cs) all =
    let both = and_parts _ _ all in
    subst IsUtf8 (sym (escaped-append (encode_utf8 c) (encode_utf8_all cs)))
    (IsUtf8-append (escaped default_writer (encode_utf8 c)) (escaped default_writer (encode_utf8_all cs)) (escaped_char c both.0) (escaped_chars cs both.1))

escaped_text : (x : List ℕ) → IsUtf8 x → IsUtf8 (escaped default_writer x)
escaped_text x utf8 = subst (λ t. IsUtf8 (escaped default_writer t)) utf8.1.1 (escaped_chars utf8.0 utf8.1.0)

quote_mark : IsUtf8 (34 ∷ [])
quote_mark = utf8_one 34 refl (omega arith)

line_feed : IsUtf8 (10 ∷ [])
line_feed = utf8_one 10 refl (omega arith)

comma : IsUtf8 (44 ∷ [])
comma = utf8_one 44 refl (omega arith)

field_utf8 : (x : List ℕ) → IsUtf8 x → IsUtf8 (field_text default_writer x)
field_utf8 x utf8 = elim (cases_Bool (list_any (needs_byte default_writer) x)) [
  | inl needs ↦ rw needs (IsUtf8-append (34 ∷ []) (escaped default_writer x ++ 34 ∷ []) quote_mark (IsUtf8-append (escaped default_writer x) (34 ∷ []) (escaped_text x utf8) quote_mark))
  | inr plain ↦ rw plain utf8
]

fields_utf8 : (fields : List (List ℕ)) → All IsUtf8 fields → IsUtf8 (fields_text default_writer fields)
unfolding fields_text
fields_utf8 [] all = IsUtf8-nil
fields_utf8 (x ∷ fields) all =
    IsUtf8-append (44 ∷ []) (field_text default_writer x ++ fields_text default_writer fields) comma
    (IsUtf8-append (field_text default_writer x) (fields_text default_writer fields) (field_utf8 x (all 0 x (omega arith))) (fields_utf8 fields (λ i d lt. all (suc i) d (omega arith))))

end_utf8 : (blank : Bool) → IsUtf8 ((if blank then 34 ∷ 34 ∷ [] else []) ++ 10 ∷ [])
end_utf8 true = IsUtf8-append (34 ∷ []) (34 ∷ 10 ∷ []) quote_mark (IsUtf8-append (34 ∷ []) (10 ∷ []) quote_mark line_feed)
end_utf8 false = line_feed

pub row_utf8 : (fields : List (List ℕ)) → All IsUtf8 fields → IsUtf8 (row_text default_writer fields)
row_utf8 [] all = end_utf8 (is_blank default_writer [])
row_utf8 (x ∷ fields) all =
    IsUtf8-append (field_text default_writer x ++ fields_text default_writer fields) ((if is_blank default_writer (x ∷ fields) then 34 ∷ 34 ∷ [] else []) ++ 10 ∷ [])
    (IsUtf8-append (field_text default_writer x) (fields_text default_writer fields) (field_utf8 x (all 0 x (omega arith))) (fields_utf8 fields (λ i d lt. all (suc i) d (omega arith))))
    (end_utf8 (is_blank default_writer (x ∷ fields)))

pub sheet_utf8 : (sheet : List (List (List ℕ))) → All (All IsUtf8) sheet → IsUtf8 (sheet_text sheet)
sheet_utf8 [] all = IsUtf8-nil
sheet_utf8 (fields ∷ sheet) all =
    IsUtf8-append (row_text default_writer fields) (sheet_text sheet) (row_utf8 fields (all 0 fields (omega arith))) (sheet_utf8 sheet (λ i d lt. all (suc i) d (omega arith)))
