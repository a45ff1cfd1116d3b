-- Two lists of which a relation holds place by place.
use Rattle.std.proofs.Common.{◌≡◌, List, [], ◌∷◌, ◌++◌, All, sym, ap, subst, ◌∙◌, arith, append_assoc, append-nil}
use Rattle.grid_csv.proofs.Common.{AllZip, All-cons, AllZip-append}

pub zip_more : {A B : Type 0} (R S : A → B → Type 0) → ((x : A) (y : B) → R x y → S x y) → (xs : List A) (ys : List B) → AllZip R xs ys → AllZip S xs ys
zip_more R S more [] [] all = tt
zip_more R S more [] (y ∷ ys) all = absurd all
zip_more R S more (x ∷ xs) [] all = absurd all
zip_more R S more (x ∷ xs) (y ∷ ys) all = (more x y all.0, zip_more R S more xs ys all.1)

-- what holds of the right items, where it follows from the left ones
pub zip_right : {A B : Type 0} (R : A → B → Type 0) (P : B → Type 0) → ((x : A) (y : B) → R x y → P y) → (xs : List A) (ys : List B) → AllZip R xs ys → All P ys
zip_right R P more [] [] all = λ i d lt. absurd (omega arith)
zip_right R P more [] (y ∷ ys) all = absurd all
zip_right R P more (x ∷ xs) [] all = absurd all
zip_right R P more (x ∷ xs) (y ∷ ys) all = All-cons P y ys (more x y all.0) (zip_right R P more xs ys all.1)

-- what holds of the left items, where it follows from the right ones
pub zip_left : {A B : Type 0} (R : A → B → Type 0) (P : A → Type 0) → ((x : A) (y : B) → R x y → P x) → (xs : List A) (ys : List B) → AllZip R xs ys → All P xs
zip_left R P more [] [] all = λ i d lt. absurd (omega arith)
zip_left R P more [] (y ∷ ys) all = absurd all
zip_left R P more (x ∷ xs) [] all = absurd all
zip_left R P more (x ∷ xs) (y ∷ ys) all = All-cons P x xs (more x y all.0) (zip_left R P more xs ys all.1)

-- the items before those that are left, and what was made of them
pub record ZipSoFar {A B : Type 0} (R : A → B → Type 0) (all left : List A) (made : List B) : Type 0 where
  pub before : List A
  pub parts : all ≡ before ++ left
  pub zip : AllZip R before made

module _ {A B : Type 0} (R : A → B → Type 0) (all : List A) where
  pub zip_start : (left : List A) → left ≡ all → ZipSoFar R all left []
  zip_start left is = record { before = []; parts = sym is; zip = tt }

  module _ (left : List A) (made : List B) (z : ZipSoFar R all left made) where
    pub zip_next : (later : List A) (x : A) (y : B) → left ≡ x ∷ later → R x y → ZipSoFar R all later (made ++ y ∷ [])
    zip_next later x y next one = record {
      before = z.before ++ x ∷ [];
      parts = z.parts ∙ (ap (λ xs. z.before ++ xs) next ∙ sym (append_assoc z.before (x ∷ []) later));
      zip = AllZip-append R z.before made x y z.zip one;
    }

    pub zip_end : left ≡ [] → AllZip R all made
    zip_end none = subst (λ xs. AllZip R xs made) (sym (z.parts ∙ (ap (λ xs. z.before ++ xs) none ∙ append-nil z.before))) z.zip
