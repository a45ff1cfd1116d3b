-- What a closure returned, call by call.
use Rattle.std.specs.Prelude.{◌≡◌, ◌<◌, ℕ, List, [], ◌∷◌, ◌++◌, length, take, slice_index_or, Result, Ok, Err}
use Rattle.std.specs.List.{FoldsTo, AllZip}
use denote.Ref.{Bor}

-- calls took the closure from f to g, one for each item of xs, and answered ys
abbrev pub MapsThrough : {F A B : Type 0} → (F → A → B → F → Type 0) → F → List A → List B → F
    → Type 0
MapsThrough step f [] [] g = f ≡ g
MapsThrough step f [] (y ∷ ys) g = ⊥
MapsThrough step f (x ∷ xs) [] g = ⊥
MapsThrough {F} step f (x ∷ xs) (y ∷ ys) g = (h : F) × step f x y h × MapsThrough step h xs ys g

-- the closure f answered ys at the items xs, in order, each call going on from the state that the
-- last one left
pub record MapsTo {F A B : Type 0} (step : F → A → B → F → Type 0) (f : F) (xs : List A)
    (ys : List B) : Type 0 where
  pub last : F
  pub calls : MapsThrough step f xs ys last

-- the same of a closure that takes nothing
pub record Generates {F B : Type 0} (step : F → B → F → Type 0) (f : F) (ys : List B) : Type 0 where
  pub last : F
  pub calls : FoldsTo step f ys last

-- R holds of the items of two lists, place by place, and the lists are as long
pub record PairsUp {A B : Type 0} (R : A → B → Type 0) (xs : List A) (ys : List B) : Type 0 where
  pub places : AllZip R xs ys

-- a call answered each item of xs before one, and failed at that one with e
pub record FailsFirst {A B E : Type 0} (returns : A → Result B E → Type 0) (xs : List A) (e : E) :
    Type 0 where
  pub done : List A
  pub at : A
  pub rest : List A
  pub answers : List B
  pub split : done ++ at ∷ rest ≡ xs
  pub before : AllZip (λ x y. returns x (Ok y)) done answers
  pub fails : returns at (Err e)

-- the closure f can be called at each item of xs in turn: at item k, in any state that the calls at
-- the items before it may leave
pub record CallableAtEach {F A B : Type 0} (takes : F → A → Type 0) (step : F → A → B → F → Type 0)
    (f : F) (xs : List A) : Type 0 where
  pub at : (k : ℕ) (x : A) (ys : List B) (g : F) → k < length xs → x ≡ slice_index_or xs k x
      → MapsThrough step f (take k xs) ys g → takes g x

-- the closure f, which takes nothing, can be called n times in turn: in any state that fewer calls
-- may leave
pub record CallableTimes {F B : Type 0} (takes : F → Type 0) (step : F → B → F → Type 0) (f : F)
    (n : ℕ) : Type 0 where
  pub at : (ys : List B) (g : F) → length ys < n → FoldsTo step f ys g → takes g

-- the closure f can be called at a reference to each item of xs
pub record CallableAtRefs {F A : Type 0} (takes : F → Bor A → Type 0) (f : F) (xs : List A) : Type 0
  where
    pub at : (k : ℕ) (p : Bor A) → k < length xs → p.now ≡ slice_index_or xs k p.now → takes f p

-- the closure f can be called at each item of xs
pub record CallableAtItems {F A : Type 0} (takes : F → A → Type 0) (f : F) (xs : List A) : Type 0
  where
    pub at : (k : ℕ) (x : A) → k < length xs → x ≡ slice_index_or xs k x → takes f x

-- the closure f can be called at each item of xs: a position, and a reference to the cell there
pub record CallableAtCells {F P A : Type 0} (takes : F → P → Bor A → Type 0) (f : F)
    (xs : List (P × A)) : Type 0 where
  pub at : (k : ℕ) (at : P) (p : Bor A) → k < length xs
      → ◌≡◌ {A = P × A} (at, p.now) (slice_index_or xs k (at, p.now)) → takes f at p

-- the closure f may answer y at a position and a reference to the cell there
pub record ReturnsAtCell {F P A B : Type 0} (returns : F → P → Bor A → B → Type 0) (f : F)
    (item : P × A) (y : B) : Type 0 where
  pub shown : Bor A
  pub shows : shown.now ≡ item.1
  pub says : returns f item.0 shown y
