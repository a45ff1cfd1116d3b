-- The symmetries that leave a table as it is, times its different images, are eight. Tests of
-- symmetries stand for sets of them: all 256 are tried.
use Rattle.std.proofs.Common.{◌≡◌, ℕ, zero, suc, ◌*◌, Bool, true, false, not, ◌&&◌, List, [], ◌∷◌, length, take, map, refl, sym, ◌∙◌, ap, arith}
use Rattle.std.specs.List.{filter, list_any, list_all}
use Rattle.std.specs.Prelude.{◌==◌, ◌||◌, slice_index_or}
use Rattle.std.specs.Cmp.{first_so, second_so}
use Rattle.std.proofs.lemmas.Bool.{eqb-true}
use Rattle.grid_base.proofs.Lemmas.{product}
use Rattle.grid_base.specs.Symmetry.{symmetries}
use Rattle.grid_base.specs.declared.words.Symmetry.{Symmetry}
use Rattle.grid_base.specs.declared.words.Symmetry.TheVariants.{Identity, FlipCols, FlipRows, RotateHalf, Transpose, RotateLeft, RotateRight, AntiTranspose}
use Rattle.grid_images.specs.Images.{number}
use Rattle.grid_images.proofs.NumberLemmas.{undoing}

-- no symmetry before s differs from it by one of the set
abbrev pub is_new : (Symmetry → Bool) → Symmetry → Bool
is_new f s = not (list_any (λ u. f (product s (undoing u))) (take (number s) symmetries))

-- the set has Identity, and with two symmetries both joined
pub record IsClosed (f : Symmetry → Bool) : Type 0 where
  pub identity : f Identity ≡ true
  pub joined : (s u : Symmetry) → f s ≡ true → f u ≡ true → f (product s u) ≡ true

abbrev join_stays : (Symmetry → Bool) → Symmetry → Symmetry → Bool
join_stays f s u = not (f s) || (not (f u) || f (product s u))

abbrev closed_test : (Symmetry → Bool) → Bool
closed_test f = f Identity && list_all (λ s. list_all (join_stays f s) symmetries) symmetries

abbrev count_test : (Symmetry → Bool) → Bool
count_test f = length (filter (is_new f) symmetries) * length (filter f symmetries) == 8

-- the set of the symmetries whose flags are true
abbrev set_of : List Bool → Symmetry → Bool
set_of flags s = slice_index_or flags (number s) false

abbrev flags_test : List Bool → Bool
flags_test flags = not (closed_test (set_of flags)) || count_test (set_of flags)

-- a test passes at each list of n flags
abbrev passes_each : ℕ → (List Bool → Bool) → Bool
passes_each zero p = p []
passes_each (suc n) p = passes_each n (λ flags. p (true ∷ flags)) && passes_each n (λ flags. p (false ∷ flags))

passes_at : (n : ℕ) (p : List Bool → Bool) → passes_each n p ≡ true → (flags : List Bool) → length flags ≡ n → p flags ≡ true
passes_at zero p e [] long = e
passes_at zero p e (b ∷ flags) long = absurd (omega (arith, long))
passes_at (suc n) p e [] long = absurd (omega (arith, long))
passes_at (suc n) p e (true ∷ flags) long = passes_at n (λ rest. p (true ∷ rest)) (first_so _ _ e) flags (omega (arith, long))
passes_at (suc n) p e (false ∷ flags) long = passes_at n (λ rest. p (false ∷ rest)) (second_so _ _ e) flags (omega (arith, long))

-- the prover computes it
all_pass : passes_each 8 flags_test ≡ true
all_pass = refl

abbrev flags_in : (Symmetry → Bool) → List Bool
flags_in f = map f symmetries

set-flags : (f : Symmetry → Bool) (s : Symmetry) → set_of (flags_in f) s ≡ f s
set-flags f Identity = refl
set-flags f FlipCols = refl
set-flags f FlipRows = refl
set-flags f RotateHalf = refl
set-flags f Transpose = refl
set-flags f RotateLeft = refl
set-flags f RotateRight = refl
set-flags f AntiTranspose = refl

all_from : {X : Type 0} (p : X → Bool) → ((x : X) → p x ≡ true) → (xs : List X) → list_all p xs ≡ true
all_from p h [] = refl
all_from p h (x ∷ xs) = λ i. h x i && all_from p h xs i

stays : (a b c : Bool) → (a ≡ true → b ≡ true → c ≡ true) → (not a || (not b || c)) ≡ true
stays false b c h = refl
stays true false c h = refl
stays true true c h = h refl refl

tested : (f : Symmetry → Bool) → IsClosed f → closed_test f ≡ true
tested f closed =
    let each = λ (s u : Symmetry). stays (f s) (f u) (f (product s u)) (closed.joined s u) in
    λ i. closed.identity i && all_from (λ s. list_all (join_stays f s) symmetries) (λ s. all_from (join_stays f s) (each s) symmetries) symmetries i

counted : (a b : Bool) → (not a || b) ≡ true → a ≡ true → b ≡ true
counted true b e h = e
counted false b e h = absurd (cc)

pub times_eight : (f : Symmetry → Bool) → IsClosed f → length (filter (is_new f) symmetries) * length (filter f symmetries) ≡ 8
times_eight f closed =
    let same : set_of (flags_in f) ≡ f = λ i s. set-flags f s i in
    let test : flags_test (flags_in f) ≡ true = passes_at 8 flags_test all_pass (flags_in f) refl in
    let test_f : (not (closed_test f) || count_test f) ≡ true = sym (ap (λ g. not (closed_test g) || count_test g) same) ∙ test in
    eqb-true _ _ (counted (closed_test f) (count_test f) test_f (tested f closed))
