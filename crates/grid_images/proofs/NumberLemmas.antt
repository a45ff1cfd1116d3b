-- The eight symmetries by their numbers, and what undoes one.
use Rattle.std.proofs.Common.{◌≡◌, ℕ, zero, suc, ◌<◌, ◌≤◌, Bool, true, false, Some, List, [], ◌∷◌, length, take, get_or, slice_get, refl, sym, ◌∙◌, ap, subst, arith}
use Rattle.std.specs.List.{Contains, list_any, filter}
use Rattle.std.specs.Prelude.{slice_index_or, cond, ◌||◌}
use Rattle.std.proofs.lemmas.List.{get_or-take, length-take-le}
use Rattle.std.proofs.lemmas.List.Elements.{All-contains, filter_passes}
use Rattle.std.proofs.lemmas.List.Folds.{list_any_at}
use Rattle.std.proofs.lemmas.Option.{get_or_from_slice_get, slice_get_within}
use Rattle.grid_base.proofs.Lemmas.{product, inverse_left}
use Rattle.grid_base.specs.Symmetry.{symmetries}
use Rattle.grid_base.specs.declared.words.Symmetry.{Symmetry}
use Rattle.grid_base.specs.declared.words.Symmetry.TheVariants.{Identity, FlipCols, FlipRows, RotateHalf, Transpose, RotateLeft, RotateRight, AntiTranspose}
use Rattle.grid_images.specs.Images.{number, symmetry_at}

pub number_small : (s : Symmetry) → number s < 8
number_small Identity = omega arith
number_small FlipCols = omega arith
number_small FlipRows = omega arith
number_small RotateHalf = omega arith
number_small Transpose = omega arith
number_small RotateLeft = omega arith
number_small RotateRight = omega arith
number_small AntiTranspose = omega arith

pub at-number : (s : Symmetry) → symmetry_at (number s) ≡ s
at-number Identity = refl
at-number FlipCols = refl
at-number FlipRows = refl
at-number RotateHalf = refl
at-number Transpose = refl
at-number RotateLeft = refl
at-number RotateRight = refl
at-number AntiTranspose = refl

pub number-at : (i : ℕ) → i < 8 → number (symmetry_at i) ≡ i
number-at zero lt = refl
number-at (suc zero) lt = refl
number-at (suc (suc zero)) lt = refl
number-at (suc (suc (suc zero))) lt = refl
number-at (suc (suc (suc (suc zero)))) lt = refl
number-at (suc (suc (suc (suc (suc zero))))) lt = refl
number-at (suc (suc (suc (suc (suc (suc zero)))))) lt = refl
number-at (suc (suc (suc (suc (suc (suc (suc zero))))))) lt = refl
number-at (suc (suc (suc (suc (suc (suc (suc (suc i)))))))) lt = absurd (omega arith)

pub number-where : (k : ℕ) (s : Symmetry) → slice_get symmetries k ≡ Some s → number s ≡ k
number-where k s e = ap number (sym (get_or_from_slice_get symmetries k s Identity e)) ∙ number-at k (slice_get_within symmetries k s e)

-- symmetries of one number are one
pub same_number : (s u : Symmetry) → number s ≡ number u → s ≡ u
same_number s u e = sym (at-number s) ∙ (ap symmetry_at e ∙ at-number u)

pub each_there : (s : Symmetry) → Contains symmetries s
each_there Identity = (0, omega arith, refl)
each_there FlipCols = (1, omega arith, refl)
each_there FlipRows = (2, omega arith, refl)
each_there RotateHalf = (3, omega arith, refl)
each_there Transpose = (4, omega arith, refl)
each_there RotateLeft = (5, omega arith, refl)
each_there RotateRight = (6, omega arith, refl)
each_there AntiTranspose = (7, omega arith, refl)

-- the symmetry that undoes one
abbrev pub undoing : Symmetry → Symmetry
undoing RotateLeft = RotateRight
undoing RotateRight = RotateLeft
undoing s = s

pub undone : (s : Symmetry) → product s (undoing s) ≡ Identity
undone Identity = refl
undone FlipCols = refl
undone FlipRows = refl
undone RotateHalf = refl
undone Transpose = refl
undone RotateLeft = refl
undone RotateRight = refl
undone AntiTranspose = refl

pub undone_before : (s : Symmetry) → product (undoing s) s ≡ Identity
undone_before s = inverse_left s (undoing s) (undone s)

-- ---- of any list

kept_at : {X : Type 0} (p : X → Bool) (xs : List X) (x : X) (k : ℕ) → k < length xs → slice_index_or xs k x ≡ x → p x ≡ true → Contains (filter p xs) x
kept_at p [] x k lt is passes = absurd (omega arith)
kept_at p (a ∷ xs) x zero lt is passes =
    subst (λ b. Contains (cond b (a ∷ filter p xs) (filter p xs)) x) (sym (ap p is ∙ passes)) (0, omega arith, is)
kept_at p (a ∷ xs) x (suc k) lt is passes = by (p a) (kept_at p xs x k (omega arith) is passes)
  where
    by : (b : Bool) → Contains (filter p xs) x → Contains (cond b (a ∷ filter p xs) (filter p xs)) x
    by true rest = (suc rest.0, omega (arith, rest.1), rest.2)
    by false rest = rest

-- what passes the test is kept, and what is kept passes it
pub Contains-filter : {X : Type 0} (p : X → Bool) (xs : List X) (x : X) → Contains xs x → p x ≡ true → Contains (filter p xs) x
Contains-filter p xs x h passes = kept_at p xs x h.0 h.1 h.2 passes

pub passes_kept : {X : Type 0} (p : X → Bool) (xs : List X) (x : X) → Contains (filter p xs) x → p x ≡ true
passes_kept p xs x h = All-contains (λ y. p y ≡ true) (filter p xs) x (filter_passes p xs) h

-- one of the first n symmetries passes
pub any_before : (p : Symmetry → Bool) (s : Symmetry) (n : ℕ) → number s < n → n ≤ 8 → p s ≡ true → list_any p (take n symmetries) ≡ true
any_before p s n lt le passes =
    list_any_at p (take n symmetries) (number s) Identity (omega (arith, length-take-le n symmetries le))
    (ap p (get_or-take n symmetries (number s) Identity lt ∙ at-number s) ∙ passes)

any_index : {X : Type 0} (p : X → Bool) (xs : List X) → list_any p xs ≡ true → (k : ℕ) × (k < length xs) × ((d : X) → p (get_or xs k d) ≡ true)
any_index p [] e = absurd (cc)
any_index {X} p (x ∷ xs) e = by (p x) refl (any_index p xs)
  where
    by : (b : Bool) → p x ≡ b → (list_any p xs ≡ true → (k : ℕ) × (k < length xs) × ((d : X) → p (get_or xs k d) ≡ true)) → (k : ℕ) × (k < suc (length xs)) × ((d : X) → p (get_or (x ∷ xs) k d) ≡ true)
    by true q more = (0, omega arith, λ d. q)
    by false q more =
        let rest = more (sym (ap (λ b. b || list_any p xs) q) ∙ e) in
        (suc rest.0, omega (arith, rest.1), rest.2)

-- if one of the first n symmetries passes, there is one
pub one_before : (p : Symmetry → Bool) (n : ℕ) → n ≤ 8 → list_any p (take n symmetries) ≡ true → (s : Symmetry) × (number s < n) × (p s ≡ true)
one_before p n le e =
    let found = any_index p (take n symmetries) e in
    let lt : found.0 < n = omega (arith, found.1, length-take-le n symmetries le) in
    (symmetry_at found.0, omega (arith, number-at found.0 (omega arith)), ap p (sym (get_or-take n symmetries found.0 Identity lt)) ∙ found.2 Identity)
