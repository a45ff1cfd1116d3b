-- A single argument that equals the word is the list of arguments.
use Rattle.std.proofs.Common.{◌≡◌, ℕ, ◌<◌, ◌∙◌, List, [], ◌∷◌, map, length, slice_index_or, codes, string_bytes, refl, ap, sym, arith}
use Rattle.std.proofs.lemmas.Slice.Eq.{bytes_eq-Decides}
use Rattle.gridscript.proofs.input.mode.Goals as goal

map_one : {A : Type 0} (f : A → List ℕ) (xs : List A) (x : A) (text : List ℕ) → 0 < length xs → length xs < 2 → x ≡ slice_index_or xs 0 x → f x ≡ text → map f xs ≡ text ∷ []
map_one f [] x text some few first is = absurd (omega arith)
map_one f (y ∷ []) x text some few first is = ap (λ t. t ∷ []) (sym (ap f first) ∙ is)
map_one f (y ∷ z ∷ ys) x text some few first is = absurd (omega arith)

pub returns-in-len1-clause-deferred : goal.returns-in-len1-clause-deferred
returns-in-len1-clause-deferred c =
    let same = (bytes_eq-Decides c.as_str.result.now (codes "deferred")).0 (sym c.if-eq.ensures) in
    (λ _. map_one string_bytes _ c.word-item.result _ c.in-len1.len_at_least c.in-len1.len_below c.word-item.is (sym c.as_str.ensures.value ∙ same), λ _. refl)
