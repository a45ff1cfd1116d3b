-- The settled positions that a path keeps.
use Rattle.std.proofs.Common.{◌≡◌, ℕ, Some, List, [], ◌∷◌, ◌++◌, sym, ◌∙◌, ap, slice_get, option_map}
use Rattle.std.proofs.lemmas.List.{map-append}
use Rattle.grid_paths.proofs.Common.{slice_get-map, Reading}
use Rattle.grid_paths.specs.Kept.{settled_of, trail_of}
use Rattle.grid_paths.specs.declared.costs.Kept.{Kept}
use Rattle.grid_paths.specs.declared.costs.Settled.{Settled}

-- one more is kept
pub trail-push : {N : Type 0} (w : Reading N) (old new : List (Kept N)) (x : Kept N) (here : Settled) → new ≡ old ++ x ∷ [] → settled_of w x ≡ here → trail_of w new ≡ trail_of w old ++ here ∷ []
trail-push w old new x here e is = ap (trail_of w) e ∙ (map-append (settled_of w) old (x ∷ []) ∙ ap (λ y. trail_of w old ++ y ∷ []) is)

-- what is kept at a place
pub trail_at : {N : Type 0} (w : Reading N) (kept : List (Kept N)) (j : ℕ) (x : Kept N) (y : Settled) → slice_get kept j ≡ Some x → y ≡ settled_of w x → slice_get (trail_of w kept) j ≡ Some y
trail_at w kept j x y e is = slice_get-map (settled_of w) kept j ∙ (ap (λ o. option_map (settled_of w) o) e ∙ ap Some (sym is))
