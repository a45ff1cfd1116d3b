-- An iterator from both ends of a list.
use Rattle.std.proofs.Common.{◌≡◌, ℕ, ◌+◌, ◌-◌, ◌<◌, ◌≤◌, List, [], ◌∷◌, ◌++◌, take, drop, length, get_or, sym, ◌∙◌, ap, arith, suc, add-one, length-take, length-drop, min, take_all, get_or-drop, drop-drop, drop-cons}
use Rattle.grid_base.proofs.Common.{take_more, drop-take, drop_min, IsRemaining, remaining}

module _ {X : Type 0} where
  -- all of a list
  pub remaining_all : (n : ℕ) (xs : List X) → n ≡ length xs → remaining 0 n xs ≡ xs
  remaining_all n xs e = take_all (n - 0) xs (omega arith)

  pub length-left : (first past : ℕ) (xs : List X) → IsRemaining first past (length xs) → length (remaining first past xs) ≡ past - first
  length-left first past xs h = omega (arith, length-take (past - first) (drop first xs), length-drop first xs, h.ordered, h.within)

  -- its first item and the others
  pub remaining_first : (first past : ℕ) (xs : List X) (d : X) → first < past → past ≤ length xs → remaining first past xs ≡ get_or xs first d ∷ remaining (first + 1) past xs
  remaining_first first past xs d lt le =
      let one : past - first ≡ suc (past - (first + 1)) = omega arith in
      ap (take (past - first)) (drop-cons xs first d (omega arith))
      ∙ (ap (λ n. take n (get_or xs first d ∷ drop (suc first) xs)) one
      ∙ ap (λ k. get_or xs first d ∷ take (past - (first + 1)) (drop k xs)) (sym (add-one first)))

  -- its last item and the others
  pub remaining_last : (first past : ℕ) (xs : List X) (d : X) → first < past → past ≤ length xs → remaining first past xs ≡ remaining first (past - 1) xs ++ get_or xs (past - 1) d ∷ []
  remaining_last first past xs d lt le =
      let one : past - first ≡ past - 1 - first + 1 = omega arith in
      let there : first + (past - 1 - first) ≡ past - 1 = omega arith in
      let within : past - 1 - first < length (drop first xs) = omega (arith, length-drop first xs) in
      ap (λ n. take n (drop first xs)) one
      ∙ (take_more (drop first xs) (past - 1 - first) d within
      ∙ ap (λ y. remaining first (past - 1) xs ++ y ∷ []) (get_or-drop first xs (past - 1 - first) d ∙ ap (λ k. get_or xs k d) there))

  -- a step from its front: item number j comes, and the numbers from u on and before v are left
  pub remaining_next : (first past n j u v : ℕ) (xs : List X) (x d : X) → IsRemaining first past n → n ≡ length xs → first < past → j ≡ first → u ≡ first + 1 → v ≡ past → x ≡ get_or xs j d → remaining first past xs ≡ x ∷ remaining u v xs
  remaining_next first past n j u v xs x d h e lt ej eu ev ex =
      remaining_first first past xs d lt (omega (arith, h.within))
      ∙ (ap (λ y. y ∷ remaining (first + 1) past xs) (ap (λ k. get_or xs k d) (sym ej) ∙ sym ex)
      ∙ (ap (λ k. x ∷ remaining k past xs) (sym eu) ∙ ap (λ k. x ∷ remaining u k xs) (sym ev)))

  -- the same from its back
  pub remaining_next_back : (first past n j u v : ℕ) (xs : List X) (x d : X) → IsRemaining first past n → n ≡ length xs → first < past → j ≡ past - 1 → u ≡ first → v ≡ past - 1 → x ≡ get_or xs j d → remaining first past xs ≡ remaining u v xs ++ x ∷ []
  remaining_next_back first past n j u v xs x d h e lt ej eu ev ex =
      remaining_last first past xs d lt (omega (arith, h.within))
      ∙ (ap (λ y. remaining first (past - 1) xs ++ y ∷ []) (ap (λ k. get_or xs k d) (sym ej) ∙ sym ex)
      ∙ (ap (λ k. remaining k (past - 1) xs ++ x ∷ []) (sym eu) ∙ ap (λ k. remaining u k xs ++ x ∷ []) (sym ev)))

  -- past n items, which are left
  pub remaining_past : (first past n : ℕ) (xs : List X) → n ≤ past - first → remaining (first + n) past xs ≡ drop n (remaining first past xs)
  remaining_past first past n xs le =
      let more : past - first ≡ n + (past - (first + n)) = omega arith in
      ap (take (past - (first + n))) (sym (drop-drop n first xs))
      ∙ (sym (drop-take n (past - (first + n)) (drop first xs)) ∙ ap (λ i. drop n (take i (drop first xs))) (sym more))

  -- past n items, or past all where fewer are left
  pub past_most : (n k : ℕ) (xs ys : List X) → k ≡ min n (length xs) → ys ≡ xs → drop k ys ≡ drop n xs
  past_most n k xs ys ek e = rw (e, ek) (drop_min n xs)

  pub part_past_most : (n k : ℕ) (xs ys : List X) → k ≡ min n (length xs) → ys ≡ xs → take (length ys - k) (drop k ys) ≡ drop n xs
  part_past_most n k xs ys ek e = take_all (length ys - k) (drop k ys) (omega (arith, length-drop k ys)) ∙ past_most n k xs ys ek e

  -- what is left past n of the items that were left, or past all where fewer were
  pub rows_passed : (first past n k : ℕ) (rows left : List X) → IsRemaining first past (length rows) → remaining first past rows ≡ left → k ≡ past - (length left - n) → remaining k past rows ≡ drop n left
  rows_passed first past n k rows left h e ek =
      let long : length left ≡ past - first = omega (arith, ap length e, length-left first past rows h) in
      let m : k - first ≡ min n (length left) = omega (arith, h.ordered) in
      let there : k ≡ first + (k - first) = omega (arith, h.ordered) in
      ap (λ i. remaining i past rows) there
      ∙ (remaining_past first past (k - first) rows (omega (arith, h.ordered)) ∙ past_most n (k - first) left (remaining first past rows) m e)
