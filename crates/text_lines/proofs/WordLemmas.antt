-- The words of a text, by the part before its first separator and by what follows.
use Rattle.std.proofs.Common.{◌≡◌, inl, inr, ℕ, ◌+◌, ◌<◌, ◌≤◌, List, [], ◌∷◌, ◌∙◌, length, refl, ap, sym, arith, filter, length-drop}
use Rattle.std.specs.List.{before_first, after_first, position_or_len}
use Rattle.std.specs.List.{slice_split}
use Rattle.std.proofs.lemmas.List.Sums.{length-filter, count_by-le-length}
use Rattle.std.proofs.lemmas.List.Splits.{length-slice_split}
use Rattle.text_lines.specs.Lines.{separates, is_word, words_of}
use Rattle.text_lines.proofs.SplitLemmas.{IsCut, cut_of}

-- the words among the later parts are those of what follows the first
later_words : (text : List ℕ) (cut : IsCut separates text) → filter is_word cut.0 ≡ words_of (after_first separates text)
later_words text cut =
    elim cut.2 [ inl h ↦ rw (h.0, h.1) refl | inr h ↦ ap (filter is_word) h ]

-- a part that is not empty is the first word
pub word_first : (text word rest : List ℕ) → word ≡ before_first separates text → rest ≡ after_first separates text → 0 < length word → words_of text ≡ word ∷ words_of rest
word_first text [] rest is follows some = absurd (omega (arith, some))
word_first text (byte ∷ word) rest is follows some =
    let cut = cut_of separates text in
    ap (filter is_word) (cut.1 ∙ ap (λ part. part ∷ cut.0) (sym is)) ∙ ap (λ parts. (byte ∷ word) ∷ parts) (later_words text cut ∙ ap words_of (sym follows))

pub rest_is_shorter : (text : List ℕ) → 0 < length text → length (after_first separates text) < length text
rest_is_shorter text some = omega (arith, some, length-drop (position_or_len separates text + 1) text)

-- a line has as many words as bytes at most, and one
pub words_fit : (text : List ℕ) → length (words_of text) ≤ length text + 1
words_fit text =
    omega (arith, length-filter is_word (slice_split separates text), count_by-le-length is_word (slice_split separates text), length-slice_split separates text, count_by-le-length separates text)
