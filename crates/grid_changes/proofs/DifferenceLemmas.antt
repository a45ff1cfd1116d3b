-- A list of commands that grows by one.
use Rattle.std.specs.List.{AllZip}
use Rattle.std.proofs.Common.{subst, sym, ◌≡◌, List, [], ◌∷◌, ◌++◌, map, ◌∙◌, ap, append_assoc}
use Rattle.grid.proofs.Common.{map-append}

-- what is behind a list goes on behind the list with the first of it
pub one_more : {C V : Type 0} (f : C → V) (old new : List C) (x : C) (rest all : List V) → new ≡ old ++ x ∷ [] → map f old ++ (f x ∷ rest) ≡ all → map f new ++ rest ≡ all
one_more f old new x rest all grown h =
    ap (λ v. map f v ++ rest) grown ∙ (ap (λ v. v ++ rest) (map-append f old (x ∷ [])) ∙ (append_assoc (map f old) (f x ∷ []) rest ∙ h))

-- what may be made of the rest goes on behind the list with one more
pub one_copied : {P C : Type 0} (R : P → C → Type 0) (all rest : List P) (old new : List C) (p : P) (x : C) → new ≡ old ++ x ∷ [] → R p x → ((later : List C) → AllZip R (p ∷ rest) later → AllZip R all (old ++ later)) → (later : List C) → AllZip R rest later → AllZip R all (new ++ later)
one_copied R all rest old new p x grown r h later zip =
    subst (AllZip R all) (sym (ap (λ v. v ++ later) grown ∙ append_assoc old (x ∷ []) later)) (h (x ∷ later) (r, zip))
