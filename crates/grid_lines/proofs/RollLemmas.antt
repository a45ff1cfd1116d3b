-- Two blocks that are a whole list and change places.
use Rattle.std.proofs.Common.{◌≡◌, ℕ, ◌+◌, ◌-◌, ◌<◌, ◌≤◌, List, ◌++◌, length, take, drop, sym, ap, ◌∙◌, arith, ⊎_elim, length-append, length-drop, take-append-drop, slice_get, length-take}
use Rattle.grid_base.proofs.Common.{cases_lt, BlocksExchanged}
use Rattle.grid_base.proofs.TableLemmas.{same_cells}
use Rattle.grid_base.proofs.StorageLemmas.{get_append_left, get_append_right}

pub rolled : {X : Type 0} (m n : ℕ) (old new : List X) → m + n ≡ length old → BlocksExchanged 0 m n old new → new ≡ drop m old ++ take m old
rolled {X} m n old new count e =
    same_cells new (drop m old ++ take m old)
    (omega (arith, e.length_stays, length-append (drop m old) (take m old), length-drop m old, length-take m old))
    (λ k lt. ⊎_elim (λ low. in_second k low) (λ high. in_first k high (omega (arith, e.length_stays))) (cases_lt k n))
  where
    front : length (take m old) ≡ m
    front = omega (arith, length-take m old)

    -- a place of old is in the first m items or after them
    behind : (k : ℕ) → slice_get old (m + k) ≡ slice_get (drop m old) k
    behind k = ap (λ xs. slice_get xs (m + k)) (sym (take-append-drop m old)) ∙ get_append_right (take m old) (drop m old) (m + k) k (omega (arith, front))

    before : (k : ℕ) → k < m → slice_get old k ≡ slice_get (take m old) k
    before k lt = ap (λ xs. slice_get xs k) (sym (take-append-drop m old)) ∙ get_append_left (take m old) (drop m old) k (omega (arith, front))

    in_second : (k : ℕ) → k < n → slice_get new k ≡ slice_get (drop m old ++ take m old) k
    in_second k low =
        ap (slice_get new) (omega arith)
        ∙ (e.second k low
        ∙ (ap (slice_get old) (omega arith) ∙ (behind k ∙ sym (get_append_left (drop m old) (take m old) k (omega (arith, length-drop m old))))))

    in_first : (k : ℕ) → n ≤ k → k < m + n → slice_get new k ≡ slice_get (drop m old ++ take m old) k
    in_first k high lt =
        ap (slice_get new) (omega arith)
        ∙ (e.first (k - n) (omega arith)
        ∙ (ap (slice_get old) (omega arith) ∙ (before (k - n) (omega arith) ∙ sym (get_append_right (drop m old) (take m old) k (k - n) (omega (arith, length-drop m old))))))
