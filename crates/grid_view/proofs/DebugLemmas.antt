-- Debug text row by row.
use Rattle.std.proofs.Common.{◌≡◌, ℕ, ◌+◌, ◌<◌, List, [], ◌∷◌, ◌++◌, take, refl, sym, ap, ◌∙◌, append-nil, Option, Some, None}
use Rattle.grid_base.proofs.Common.{◌++?◌, debug_list, then_text_assoc, take_more, row, row_count}
use Rattle.grid_view.specs.Texts.{rows_text}

module _ {T : Type 0} (text : T → Option (List ℕ)) where
  rows_push : (t : List (List T)) (line : List T) → rows_text text (t ++ line ∷ []) ≡ rows_text text t ++? debug_list text line
  rows_push [] line = alone (debug_list text line)
    where
      alone : (o : Option (List ℕ)) → o ++? Some [] ≡ Some [] ++? o
      alone None = refl
      alone (Some a) = ap Some (append-nil a)
  rows_push (x ∷ t) line = ap (λ o. debug_list text x ++? o) (rows_push t line) ∙ sym (then_text_assoc (debug_list text x) (rows_text text t) (debug_list text line))

  -- one more row
  pub rows_next : (t : List (List T)) (r : ℕ) → r < row_count t → rows_text text (take (r + 1) t) ≡ rows_text text (take r t) ++? debug_list text (row t r)
  rows_next t r lt = ap (rows_text text) (take_more t r [] lt) ∙ rows_push (take r t) (row t r)
