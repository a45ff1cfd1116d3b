-- The lines of a script, by its first line and by what follows.
use Rattle.std.proofs.Common.{◌≡◌, inl, inr, ℕ, ◌==◌, Bool, List, [], ◌∷◌, ◌∙◌, map, refl, ap, sym, Option, None, Some, cond, nat_lt, length, position, slice_index, arith, lt-ltb, le-ltb}
use Rattle.std.specs.List.{before_first, after_first, slice_split, position_or_len}
use Rattle.std.proofs.lemmas.Bool.{false_from_ne_true}
use Rattle.std.proofs.lemmas.List.Sums.{position_or_len_is}
use Rattle.memchr.specs.Find.{IsFirstByte}
use Rattle.text_lines.specs.Lines.{without_return, first_line, later_lines, without_empty_end, lines_of}
use Rattle.text_lines.proofs.SplitLemmas.{cut_of}

abbrev ends : ℕ → Bool
ends byte = byte == 10

-- a line before others is kept
kept : (line : List ℕ) (text : List ℕ) → without_empty_end (line ∷ slice_split ends text) ≡ line ∷ without_empty_end (slice_split ends text)
kept line text = let cut = cut_of ends text in rw cut.1 refl

pub lines-first : (byte : ℕ) (text : List ℕ) → lines_of (byte ∷ text) ≡ first_line (byte ∷ text) ∷ lines_of (later_lines (byte ∷ text))
unfolding lines_of
lines-first byte text =
    let all = byte ∷ text in
    let cut = cut_of ends all in
    elim cut.2 [
      | inl h ↦ ap (λ parts. map without_return (without_empty_end parts)) (cut.1 ∙ (ap (λ parts. before_first ends all ∷ parts) h.0 ∙ ap (λ line. line ∷ []) h.2))
          ∙ (ap (λ line. without_return line ∷ []) (sym h.2) ∙ ap (λ rest. first_line all ∷ map without_return (without_empty_end (slice_split ends rest))) (sym h.1))
      | inr h ↦ ap (λ parts. map without_return (without_empty_end parts)) (cut.1 ∙ ap (λ parts. before_first ends all ∷ parts) h)
          ∙ ap (map without_return) (kept (before_first ends all) (after_first ends all))
    ]

pub lines-none : lines_of [] ≡ []
unfolding lines_of
lines-none = refl

-- the first place at which a search of bytes found one
pub first_place : (test : ℕ → Bool) (text : List ℕ) (found : Option ℕ) → IsFirstByte test text found → found ≡ position test text
first_place test text None h =
    let all : position_or_len test text ≡ length text = position_or_len_is test text (length text) 0 (omega arith)
    (λ k below. false_from_ne_true (test (slice_index text k)) (h k (omega arith) below)) (λ past. absurd (omega (arith, past))) in
    sym (ap (λ n. cond (nat_lt n (length text)) (Some n) None) all ∙ ap (λ b. cond b (Some (length text)) None) (le-ltb (length text) (length text) (omega arith)))
first_place test text (Some end) h =
    let first : position_or_len test text ≡ end = position_or_len_is test text end 0 (omega (arith, h.0.high))
    (λ k below. false_from_ne_true (test (slice_index text k)) (h.0.before k (omega arith) below)) (λ _. h.1) in
    sym (ap (λ n. cond (nat_lt n (length text)) (Some n) None) first ∙ ap (λ b. cond b (Some end) None) (lt-ltb end (length text) h.0.high))
