-- Iterators over cells with their positions.
use Rattle.std.proofs.Common.{◌≡◌, ◌≤◌, ℕ, zero, suc, List, [], ◌∷◌, ◌++◌, Some, length, refl, ap, ◌∙◌, arith, zip, slice_get}
use Rattle.grid_base.proofs.Common.{length-zip}

-- no pairs without second parts
pub zip_nothing : {A B : Type 0} (xs : List A) (ys : List B) → length ys ≡ 0 → zip xs ys ≡ []
zip_nothing [] ys h = refl
zip_nothing (x ∷ xs) [] h = refl
zip_nothing (x ∷ xs) (y ∷ ys) h = absurd (omega arith)

-- no more pairs than second parts, and as many where the lists are as long
pub zip_within : {A B : Type 0} (xs : List A) (ys : List B) → length (zip xs ys) ≤ length ys
zip_within xs ys = omega (arith, length-zip xs ys)

pub zip_even : {A B : Type 0} (xs : List A) (ys : List B) → length xs ≡ length ys → length (zip xs ys) ≡ length ys
zip_even xs ys h = omega (arith, length-zip xs ys)

pub get-zip : {A B : Type 0} (xs : List A) (ys : List B) (k : ℕ) (x : A) (y : B) → slice_get xs k ≡ Some x → slice_get ys k ≡ Some y → slice_get (zip xs ys) k ≡ Some (x, y)
get-zip [] ys k x y hx hy = cc
get-zip (a ∷ xs) [] k x y hx hy = cc
get-zip (a ∷ xs) (b ∷ ys) zero x y hx hy = let ex : a ≡ x = cc in let ey : b ≡ y = cc in λ i. Some (ex i, ey i)
get-zip (a ∷ xs) (b ∷ ys) (suc k) x y hx hy = get-zip xs ys k x y hx hy

-- the last pair
pub zip_last : {A B : Type 0} (xs : List A) (ys : List B) (x : A) (y : B) → slice_get xs (length ys) ≡ Some x → zip xs (ys ++ y ∷ []) ≡ zip xs ys ++ (x, y) ∷ []
zip_last [] ys x y h = absurd (cc)
zip_last (a ∷ xs) [] x y h = let e : a ≡ x = cc in ap (λ l. (a, y) ∷ l) (zip_nothing xs [] refl) ∙ ap (λ z. (z, y) ∷ []) e
zip_last (a ∷ xs) (b ∷ ys) x y h = ap (λ l. (a, b) ∷ l) (zip_last xs ys x y h)

pub ruleset placed_cells = (length-zip, zip_nothing)
