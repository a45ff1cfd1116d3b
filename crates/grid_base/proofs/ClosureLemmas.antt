-- Closures, call by call.
use Rattle.std.proofs.Common.{◌≡◌, ℕ, ◌+◌, Some, List, [], ◌∷◌, ◌++◌, map, refl, sym, subst, ◌∙◌, ap, length, take, arith, length-append, slice_get, Bor}
use Rattle.grid_base.proofs.Common.{take_more, get_or-append_seam, take-append_seam, slice_get_within, get_or_from_slice_get, FoldsTo, AllZip, MapsThrough, MapsTo, PairsUp, CallableAtEach, CallableAtCells, CallableAtItems}

-- one more answer
pub MapsThrough-append : {F A B : Type 0} (step : F → A → B → F → Type 0) (f g h : F) (xs : List A) (ys : List B) (x : A) (y : B) → MapsThrough step f xs ys g → step g x y h → MapsThrough step f (xs ++ x ∷ []) (ys ++ y ∷ []) h
MapsThrough-append {F} step f g h [] [] x y a s = (h, subst (λ (v : F). step v x y h) (sym a) s, refl)
MapsThrough-append step f g h [] (b ∷ ys) x y a s = absurd a
MapsThrough-append step f g h (a' ∷ xs) [] x y a s = absurd a
MapsThrough-append step f g h (a' ∷ xs) (b ∷ ys) x y a s = (a.0, a.1, MapsThrough-append step a.0 g h xs ys x y a.2 s)

pub FoldsTo-append : {P A : Type 0} (R : P → A → P → Type 0) (p q r : P) (xs : List A) (x : A) → FoldsTo R p xs q → R q x r → FoldsTo R p (xs ++ x ∷ []) r
FoldsTo-append {P} R p q r [] x a s = (r, subst (λ (v : P). R v x r) (sym a) s, refl)
FoldsTo-append R p q r (y ∷ xs) x a s = (a.0, a.1, FoldsTo-append R a.0 q r xs x a.2 s)

pub AllZip-append : {A B : Type 0} (R : A → B → Type 0) (xs : List A) (ys : List B) (x : A) (y : B) → AllZip R xs ys → R x y → AllZip R (xs ++ x ∷ []) (ys ++ y ∷ [])
AllZip-append R [] [] x y a r = (r, tt)
AllZip-append R [] (b ∷ ys) x y a r = absurd a
AllZip-append R (c ∷ xs) [] x y a r = absurd a
AllZip-append R (c ∷ xs) (b ∷ ys) x y a r = (a.0, AllZip-append R xs ys x y a.1 r)

module _ {F A B : Type 0} (step : F → A → B → F → Type 0) (h : A → B) (k : (p : F) (x : A) (y : B) (q : F) → step p x y q → y ≡ h x) where
  answers_map : (f g : F) (xs : List A) (ys : List B) → MapsThrough step f xs ys g → ys ≡ map h xs
  answers_map f g [] [] a = refl
  answers_map f g [] (y ∷ ys) a = absurd a
  answers_map f g (x ∷ xs) [] a = absurd a
  answers_map f g (x ∷ xs) (y ∷ ys) a = λ i. k f x y a.0 a.1 i ∷ answers_map a.0 g xs ys a.2 i

module _ {A B : Type 0} (R : A → B → Type 0) (h : A → B) (k : (x : A) (y : B) → R x y → y ≡ h x) where
  zips_map : (xs : List A) (ys : List B) → AllZip R xs ys → ys ≡ map h xs
  zips_map [] [] a = refl
  zips_map [] (y ∷ ys) a = absurd a
  zips_map (x ∷ xs) [] a = absurd a
  zips_map (x ∷ xs) (y ∷ ys) a = λ i. k x y a.0 i ∷ zips_map xs ys a.1 i

-- where each answer is h of its item, whatever the state, the answers are h of the items
pub answers_pure : {F A B : Type 0} {step : F → A → B → F → Type 0} {f : F} {xs : List A} {ys : List B} → MapsTo step f xs ys → (h : A → B) → ((p : F) (x : A) (y : B) (q : F) → step p x y q → y ≡ h x) → ys ≡ map h xs
answers_pure {step = step} {f} {xs} {ys} r h k = answers_map step h k f r.last xs ys r.calls

pub pairs_pure : {A B : Type 0} {R : A → B → Type 0} {xs : List A} {ys : List B} → PairsUp R xs ys → (h : A → B) → ((x : A) (y : B) → R x y → y ≡ h x) → ys ≡ map h xs
pairs_pure {R = R} {xs} {ys} r h k = zips_map R h k xs ys r.places

module _ {F A B : Type 0} (takes : F → A → Type 0) (step : F → A → B → F → Type 0) (f : F) where
  -- the closure can be called at the item after those that it answered
  pub callable_next : (g : F) (xs done rest : List A) (x : A) (ys : List B) → CallableAtEach takes step f xs → done ++ x ∷ rest ≡ xs → MapsThrough step f done ys g → takes g x
  callable_next g xs done rest x ys h is a =
      let whole : CallableAtEach takes step f (done ++ x ∷ rest) = subst (CallableAtEach takes step f) (sym is) h in
      whole.at (length done) x ys g (omega (arith, length-append done (x ∷ rest))) (sym (get_or-append_seam done x rest x))
      (subst (λ l. MapsThrough step f l ys g) (sym (take-append_seam done (x ∷ rest))) a)

-- the closure can be called at the item after those that it answered, where no call changes it
pub callable_item : {F A : Type 0} (takes : F → A → Type 0) (f : F) (xs done rest : List A) (x : A) → CallableAtItems takes f xs → done ++ x ∷ rest ≡ xs → takes f x
callable_item takes f xs done rest x h is =
    let whole : CallableAtItems takes f (done ++ x ∷ rest) = subst (CallableAtItems takes f) (sym is) h in
    whole.at (length done) x (omega (arith, length-append done (x ∷ rest))) (sym (get_or-append_seam done x rest x))

-- the closure can be called at the position and the cell after those that it answered
pub callable_cell : {F P A : Type 0} (takes : F → P → Bor A → Type 0) (f : F) (xs done rest : List (P × A)) (at : P) (p : Bor A) → CallableAtCells takes f xs → done ++ (at, p.now) ∷ rest ≡ xs → takes f at p
callable_cell {P = P} {A} takes f xs done rest at p h is =
    let x : P × A = (at, p.now) in
    let whole : CallableAtCells takes f (done ++ x ∷ rest) = subst (CallableAtCells takes f) (sym is) h in
    whole.at (length done) at p (omega (arith, length-append done (x ∷ rest))) (sym (get_or-append_seam done x rest x))

pub AllZip-length : {A B : Type 0} (R : A → B → Type 0) (xs : List A) (ys : List B) → AllZip R xs ys → length ys ≡ length xs
AllZip-length R [] [] a = refl
AllZip-length R [] (b ∷ ys) a = absurd a
AllZip-length R (c ∷ xs) [] a = absurd a
AllZip-length R (c ∷ xs) (b ∷ ys) a = omega (arith, AllZip-length R xs ys a.1)

-- one more item, by its number
pub take_next : {X : Type 0} (xs : List X) (k : ℕ) (x : X) → slice_get xs k ≡ Some x → take (k + 1) xs ≡ take k xs ++ x ∷ []
take_next xs k x h =
    take_more xs k x (slice_get_within xs k x h) ∙ ap (λ z. take k xs ++ z ∷ []) (get_or_from_slice_get xs k x x h)

-- one more answer, to the item after those that were answered
pub answers_more : {A B : Type 0} (R : A → B → Type 0) (xs : List A) (n : ℕ) (ys : List B) (x : A) (y : B) → slice_get xs n ≡ Some x → AllZip R (take n xs) ys → R x y → AllZip R (take (n + 1) xs) (ys ++ y ∷ [])
answers_more R xs n ys x y h a r =
    rw (take_next xs n x h) (AllZip-append R (take n xs) ys x y a r)
