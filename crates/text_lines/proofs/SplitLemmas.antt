-- The parts of a text that a test cuts, by what is before the first byte that passes, and by what follows it.
use Rattle.std.proofs.Common.{◌≡◌, ◌⊎◌, inl, inr, ℕ, suc, ◌+◌, Bool, true, false, List, [], ◌∷◌, ◌∙◌, refl, ap, sym, arith}
use Rattle.std.specs.List.{before_first, after_first, slice_split, onto_first, position_or_len}
use Rattle.std.proofs.lemmas.List.Splits.{slice_split-cons_no}

module _ (cuts : ℕ → Bool) where
  -- the first part, and the parts of what follows it, or none where no byte passes
  abbrev pub IsCut : List ℕ → Type 0
  IsCut text = (parts : List (List ℕ)) × (slice_split cuts text ≡ before_first cuts text ∷ parts)
      × (((parts ≡ []) × (after_first cuts text ≡ []) × (before_first cuts text ≡ text)) ⊎ (parts ≡ slice_split cuts (after_first cuts text)))

  before_at : (byte : ℕ) (text : List ℕ) → cuts byte ≡ false → before_first cuts (byte ∷ text) ≡ byte ∷ before_first cuts text
  before_at byte text e =
      let one : 1 + position_or_len cuts text ≡ suc (position_or_len cuts text) = omega arith in
      rw e (rw one refl)

  after_at : (byte : ℕ) (text : List ℕ) → cuts byte ≡ false → after_first cuts (byte ∷ text) ≡ after_first cuts text
  after_at byte text e =
      let one : 1 + position_or_len cuts text + 1 ≡ suc (position_or_len cuts text + 1) = omega arith in
      rw e (rw one refl)

  cut_at : (byte : ℕ) (text : List ℕ) (t : Bool) → cuts byte ≡ t → IsCut text → IsCut (byte ∷ text)
  cut_at byte text true e cut = rw e (slice_split cuts text, refl, inr refl)
  cut_at byte text false e cut = (
    cut.0,
    slice_split-cons_no cuts byte text e ∙ (ap (onto_first byte) cut.1 ∙ ap (λ part. part ∷ cut.0) (sym (before_at byte text e))),
    elim cut.2 [ inl h ↦ inl (h.0, after_at byte text e ∙ h.1, before_at byte text e ∙ ap (λ part. byte ∷ part) h.2) | inr h ↦ inr (h ∙ ap (slice_split cuts) (sym (after_at byte text e))) ],
  )

  pub cut_of : (text : List ℕ) → IsCut text
  cut_of [] = ([], refl, inl (refl, refl, refl))
  cut_of (byte ∷ text) = cut_at byte text (cuts byte) refl (cut_of text)
