-- The text of rows, line by line.
use Rattle.std.proofs.Common.{◌≡◌, ℕ, List, [], ◌∷◌, ◌++◌, encode_utf8, refl, subst, sym, ap, ◌∙◌, arith, append_assoc, flat_map}
use Rattle.grid_text.proofs.Common.{MayWriteLine, MayWriteRows, line_text, table_text, encode_ascii}

-- a row more, and its line feed
pub row_more : {X : Type 0} (line : X → List ℕ) (before mid added out : List ℕ) (left later : List X) (r : X) → before ++ flat_map (λ row. line row ++ 10 ∷ []) left ≡ out → left ≡ r ∷ later → mid ≡ before ++ line r → added ≡ mid ++ encode_utf8 10 → added ++ flat_map (λ row. line row ++ 10 ∷ []) later ≡ out
row_more line before mid added out left later r so_far next row feed =
    let text : List ℕ = line r in
    let rest : List ℕ = flat_map (λ row. line row ++ 10 ∷ []) later in
    let e : added ≡ before ++ (text ++ 10 ∷ []) =
    feed ∙ (ap (λ x. x ++ encode_utf8 10) row ∙ (append_assoc before text (encode_utf8 10) ∙ ap (λ x. before ++ (text ++ x)) (encode_ascii 10 (omega arith)))) in
    ap (λ x. x ++ rest) e
    ∙ (append_assoc before (text ++ 10 ∷ []) rest ∙ (ap (λ l. before ++ flat_map (λ row. line row ++ 10 ∷ []) l) (sym next) ∙ so_far))

-- where R says which characters a cell may be written as
module _ {T : Type 0} (R : T → ℕ → Type 0) where
  -- a cell more of a row
  pub cell_more : (all left later : List T) (x : T) (c : ℕ) (old mid added : List ℕ) → ((rest : List ℕ) → MayWriteLine R left rest → (line : List ℕ) × MayWriteLine R all line × (mid ++ rest ≡ old ++ line)) → left ≡ x ∷ later → R x c → added ≡ mid ++ encode_utf8 c → (rest : List ℕ) → MayWriteLine R later rest → (line : List ℕ) × MayWriteLine R all line × (added ++ rest ≡ old ++ line)
  cell_more all left later x c old mid added so_far next gave push rest m =
      let h = so_far (encode_utf8 c ++ rest) (subst (λ xs. MayWriteLine R xs (encode_utf8 c ++ rest)) (sym next) (c, rest, gave, m, refl)) in
      (h.0, h.1, ap (λ x. x ++ rest) push ∙ (append_assoc mid (encode_utf8 c) rest ∙ h.2))

  -- a row more, and its line feed
  pub row_may : (all left later : List (List T)) (row : List T) (before mid added line : List ℕ) → ((rest : List ℕ) → MayWriteRows R left rest → MayWriteRows R all (before ++ rest)) → left ≡ row ∷ later → MayWriteLine R row line → mid ≡ before ++ line → added ≡ mid ++ encode_utf8 10 → (rest : List ℕ) → MayWriteRows R later rest → MayWriteRows R all (added ++ rest)
  row_may all left later row before mid added line so_far next may put feed rest m =
      let e : before ++ (line ++ 10 ∷ rest) ≡ added ++ rest =
      sym (ap (λ x. x ++ rest) (feed ∙ (ap (λ x. x ++ encode_utf8 10) put ∙ ap (λ x. (before ++ line) ++ x) (encode_ascii 10 (omega arith))))
      ∙ (append_assoc (before ++ line) (10 ∷ []) rest ∙ append_assoc before line (10 ∷ rest))) in
      subst (MayWriteRows R all) e (so_far (line ++ 10 ∷ rest) (subst (λ xs. MayWriteRows R xs (line ++ 10 ∷ rest)) (sym next) (line, rest, may, m, refl)))

  -- where h gives each character, what may be written is what h writes
  module _ (h : T → ℕ) (said : (x : T) (c : ℕ) → R x c → c ≡ h x) where
    line_written : (row : List T) (text : List ℕ) → MayWriteLine R row text → text ≡ line_text h row
    line_written [] text m = m
    line_written (x ∷ row) text m =
        m.4 ∙ (ap (λ c. encode_utf8 c ++ m.1) (said x m.0 m.2) ∙ ap (λ l. encode_utf8 (h x) ++ l) (line_written row m.1 m.3))

    pub rows_written : (rows : List (List T)) (text : List ℕ) → MayWriteRows R rows text → text ≡ table_text h rows
    rows_written [] text m = m
    rows_written (row ∷ rows) text m =
        m.4
        ∙ (sym (append_assoc m.0 (10 ∷ []) m.1)
        ∙ (ap (λ l. (l ++ 10 ∷ []) ++ m.1) (line_written row m.0 m.2) ∙ ap (λ t. (line_text h row ++ 10 ∷ []) ++ t) (rows_written rows m.1 m.3)))
