-- The text of items one after another.
use Rattle.std.proofs.Common.{◌≡◌, ℕ, suc, ◌+◌, ◌<◌, Bool, true, false, List, [], ◌∷◌, ◌++◌, length, take, get_or, cond, ltb, refl, sym, ap, ◌∙◌, arith, add-one, append-nil, Option, Some, None, take-suc, length-take-le, lt-ltb}
use Rattle.grid_base.proofs.Common.{then_text_assoc}
use Rattle.grid_view.specs.Texts.{items_text}
use Rattle.grid_base.proofs.Common.{◌++?◌}

nothing_then : (o : Option (List ℕ)) → Some [] ++? o ≡ o
nothing_then None = refl
nothing_then (Some a) = refl

then_nothing : (o : Option (List ℕ)) → o ++? Some [] ≡ o
then_nothing None = refl
then_nothing (Some a) = ap Some (append-nil a)

same_either_way : (t : Bool) (a : List ℕ) → cond t a a ≡ a
same_either_way true a = refl
same_either_way false a = refl

module _ {X : Type 0} (text : X → Option (List ℕ)) (between : List ℕ) where
  items-push : (lead : List ℕ) (xs : List X) (x : X) → items_text text between lead (xs ++ x ∷ []) ≡ items_text text between lead xs ++? (Some (cond (ltb 0 (length xs)) between lead) ++? text x)
  items-push lead [] x = ap (λ o. Some lead ++? o) (then_nothing (text x)) ∙ sym (nothing_then _)
  items-push lead (y ∷ xs) x =
      rw (items-push between xs x, same_either_way (ltb 0 (length xs)) between, lt-ltb 0 (suc (length xs)) (omega arith))
      (sym (then_text_assoc (Some lead) _ _ ∙ ap (λ o. Some lead ++? o) (then_text_assoc (text y) _ _)))

  -- one more item
  pub items-next : (xs : List X) (i : ℕ) (x : X) → i < length xs → x ≡ get_or xs i x
      → items_text text between [] (take (i + 1) xs) ≡ items_text text between [] (take i xs) ++? (Some (cond (ltb 0 i) between []) ++? text x)
  items-next xs i x within is =
      rw (add-one, take-suc xs i x within, ← is, items-push, length-take-le i xs (omega arith))
