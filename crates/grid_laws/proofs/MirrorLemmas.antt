-- Lists whose items are exchanged in pairs: as many swaps as pairs make the one of the other, and no fewer do.
use Rattle.std.proofs.Common.{◌≡◌, ◌≢◌, ℕ, zero, suc, ◌<◌, List, [], ◌∷◌, length, refl, sym, ◌∙◌, ap, subst, arith, inl, inr, ⊎_elim, ◌⊎◌, slice_get}
use Rattle.grid_laws.proofs.Common.{cases_lt, cases_eq, AreWithin, IsLeast}
use Rattle.grid_laws.proofs.OriginLemmas.{turned, turned_first, turned_second, turned_other, origin, makes}
use Rattle.grid_laws.proofs.PigeonLemmas.{AreDifferent, at_least}

-- no two places of a list have the same item
pub record HasDifferentItems {T : Type 0} (xs : List T) : Type 0 where
  pub different : (i j : ℕ) → i < length xs → j < length xs → slice_get xs i ≡ slice_get xs j → i ≡ j

-- nothing is done
pub none_is_least : {T : Type 0} (xs ys : List T) → ys ≡ xs → IsLeast 0 xs ys
unfolding origin
none_is_least xs ys e =
    let len = ap length e in
    record {
      reached = ([], refl, makes [] xs ys tt (omega arith) (λ k lt. ap (λ v. slice_get v k) (sym e)));
      least = λ qs b. omega arith;
    }

-- the pairs f 0, g 0 to f (n - 1), g (n - 1)
pub pairs : (ℕ → ℕ) → (ℕ → ℕ) → ℕ → List (ℕ × ℕ)
pairs f g zero = []
pairs f g (suc n) = (f n, g n) ∷ pairs f g n

pub length-pairs : (f g : ℕ → ℕ) (n : ℕ) → length (pairs f g n) ≡ n
unfolding pairs
length-pairs f g zero = refl
length-pairs f g (suc n) = ap suc (length-pairs f g n)

pub pairs_within : (f g : ℕ → ℕ) (n len : ℕ) → ((x : ℕ) → x < n → f x < len) → ((x : ℕ) → x < n → g x < len) → AreWithin len (pairs f g n)
unfolding pairs
pairs_within f g zero len a b = tt
pairs_within f g (suc n) len a b =
    ((a n (omega arith), b n (omega arith)), pairs_within f g n len (λ x lt. a x (omega arith)) (λ x lt. b x (omega arith)))

record AreApart (n : ℕ) (f g : ℕ → ℕ) : Type 0 where
  pub first : AreDifferent n f
  pub second : AreDifferent n g
  pub apart : (x y : ℕ) → x < n → y < n → f x ≢ g y

pub fewer : (n : ℕ) (f : ℕ → ℕ) → AreDifferent (suc n) f → AreDifferent n f
fewer n f d = record { different = λ x y p q. d.different x y (omega arith) (omega arith) }

module _ (f g : ℕ → ℕ) where
  pub origin_other : (n k : ℕ) → ((x : ℕ) → x < n → k ≢ f x) → ((x : ℕ) → x < n → k ≢ g x) → origin (pairs f g n) k ≡ k
  unfolding origin pairs
  origin_other zero k a b = refl
  origin_other (suc n) k a b =
      ap (turned (f n) (g n)) (origin_other n k (λ x lt. a x (omega arith)) (λ x lt. b x (omega arith)))
      ∙ turned_other (f n) (g n) k (a n (omega arith)) (b n (omega arith))

  -- where no first place is a second one of an earlier pair
  pub origin_first : (n x : ℕ) → AreDifferent n f → AreDifferent n g → ((x y : ℕ) → x < n → y < x → f x ≢ g y) → x < n → origin (pairs f g n) (f x) ≡ g x
  unfolding origin pairs
  origin_first zero x d e apart lt = absurd (omega arith)
  origin_first (suc n) x d e apart lt =
      ⊎_elim (λ low.
      ap (turned (f n) (g n)) (origin_first n x (fewer n f d) (fewer n g e) (λ x y p q. apart x y (omega arith) q) low)
      ∙ turned_other (f n) (g n) (g x) (λ is. apart n x (omega arith) low (sym is))
      (λ is. let same = e.different x n lt (omega arith) is in absurd (omega arith)))
      (λ high.
      let same : x ≡ n = omega arith in
      ap (λ y. turned (f n) (g n) (origin (pairs f g n) (f y))) same
      ∙ (ap (turned (f n) (g n))
      (origin_other n (f n) (λ y p is. let same = d.different n y (omega arith) (omega arith) is in absurd (omega arith)) (λ y p. apart n y (omega arith) p))
      ∙ (turned_first (f n) (g n) (f n) refl ∙ ap g (sym same))))
      (cases_lt x n)

  origin_second : (n x : ℕ) → AreApart n f g → x < n → origin (pairs f g n) (g x) ≡ f x
  unfolding origin pairs
  origin_second zero x d lt = absurd (omega arith)
  origin_second (suc n) x d lt =
      ⊎_elim (λ low.
      ap (turned (f n) (g n)) (origin_second n x (record { first = fewer n f d.first; second = fewer n g d.second; apart = λ x y p q. d.apart x y (omega arith) (omega arith) }) low)
      ∙ turned_other (f n) (g n) (f x)
      (λ e. let same = d.first.different x n lt (omega arith) e in absurd (omega arith)) (d.apart x n lt (omega arith)))
      (λ high.
      let same : x ≡ n = omega arith in
      ap (λ y. turned (f n) (g n) (origin (pairs f g n) (g y))) same
      ∙ (ap (turned (f n) (g n))
      (origin_other n (g n) (λ y p e. d.apart y n (omega arith) (omega arith) (sym e)) (λ y p e. let is = d.second.different n y (omega arith) (omega arith) e in absurd (omega arith)))
      ∙ (turned_second (f n) (g n) (g n) (λ e. d.apart n n (omega arith) (omega arith) (sym e)) refl ∙ ap f (sym same))))
      (cases_lt x n)

-- whether one of f 0 to f (n - 1) is k
look : (n : ℕ) (f : ℕ → ℕ) (k : ℕ) → ((x : ℕ) × (x < n) × (k ≡ f x)) ⊎ ((x : ℕ) → x < n → k ≢ f x)
look zero f k = inr (λ x lt e. absurd (omega arith))
look (suc n) f k =
    ⊎_elim (λ e. inl (n, omega arith, e))
    (λ ne.
    ⊎_elim (λ found. inl (found.0, omega (arith, found.1), found.2))
    (λ none. inr (λ x lt e.
    ⊎_elim (λ low. none x low e) (λ high. let same : x ≡ n = omega arith in ne (e ∙ ap f same)) (cases_lt x n)))
    (look n f k))
    (cases_eq k (f n))

-- turn exchanges the places below len in pairs, of which f 0 to f (n - 1) are the earlier ones
pub record IsMirror (len n : ℕ) (turn f : ℕ → ℕ) : Type 0 where
  pub inside : (k : ℕ) → k < len → turn k < len
  pub back : (k : ℕ) → k < len → turn (turn k) ≡ k
  pub different : AreDifferent n f
  pub earlier : (x : ℕ) → x < n → f x < turn (f x)
  pub below : (x : ℕ) → x < n → f x < len
  pub all : (k : ℕ) → k < len → k < turn k → (x : ℕ) × (x < n) × (k ≡ f x)

module _ (len n : ℕ) (turn f : ℕ → ℕ) (m : IsMirror len n turn f) where
  apart : AreApart n f (λ x. turn (f x))
  apart = record {
    first = m.different;
    second = record {
      different = λ x y p q e.
          m.different.different x y p q (sym (m.back (f x) (m.below x p)) ∙ (ap turn e ∙ m.back (f y) (m.below y q)));
    };
    apart = λ x y p q e.
        let one = m.earlier x p in
        let two = m.earlier y q in
        let other : turn (f x) ≡ f y = ap turn e ∙ m.back (f y) (m.below y q) in
        absurd (omega arith);
  }

  origin_is : (k : ℕ) → k < len → origin (pairs f (λ x. turn (f x)) n) k ≡ turn k
  origin_is k lt =
      ⊎_elim (λ a. ap (origin (pairs f (λ x. turn (f x)) n)) a.2 ∙ (origin_first f (λ x. turn (f x)) n a.0 apart.first apart.second (λ x y p q. apart.apart x y p (omega arith)) a.1 ∙ ap turn (sym a.2)))
      (λ na.
      ⊎_elim (λ b.
      ap (origin (pairs f (λ x. turn (f x)) n)) b.2
      ∙ (origin_second f (λ x. turn (f x)) n b.0 apart b.1 ∙ (sym (m.back (f b.0) (m.below b.0 b.1)) ∙ ap turn (sym b.2))))
      (λ nb.
      origin_other f (λ x. turn (f x)) n k na nb
      ∙ ⊎_elim (λ up. let a = m.all k lt up in absurd (na a.0 a.1 a.2))
      (λ down.
      ⊎_elim (λ under.
      let back = m.back k lt in
      let a = m.all (turn k) (m.inside k lt) (omega arith) in
      absurd (nb a.0 a.1 (sym back ∙ ap turn a.2)))
      (λ over. let is : k ≡ turn k = omega arith in is)
      (cases_lt (turn k) k))
      (cases_lt k (turn k)))
      (look n (λ x. turn (f x)) k))
      (look n f k)

  pub least_by_mirror : {T : Type 0} (xs ys : List T) → length xs ≡ len → length ys ≡ len → ((k : ℕ) → k < len → slice_get ys k ≡ slice_get xs (turn k)) → HasDifferentItems xs → IsLeast n xs ys
  least_by_mirror xs ys lx ly same d =
      let ps = pairs f (λ x. turn (f x)) n in
      let within : AreWithin (length xs) ps = subst (λ l. AreWithin l ps) (sym lx) (pairs_within f (λ x. turn (f x)) n len m.below (λ x lt. m.inside (f x) (m.below x lt))) in
      record {
        reached = (
          ps,
          length-pairs f (λ x. turn (f x)) n,
          makes ps xs ys within (omega arith) (λ k lt. ap (slice_get xs) (origin_is k (omega arith)) ∙ sym (same k (omega arith))),
        );
        least = λ qs b. at_least xs ys qs n f (λ x. turn (f x))
            (λ x lt j p e. let in_len = m.inside (f x) (m.below x lt) in d.different j (turn (f x)) p (omega arith) e) b m.different m.earlier
            (λ x lt. let in_len = m.inside (f x) (m.below x lt) in omega arith)
            (λ x lt. let low = m.below x lt in omega arith) (λ x lt. same (f x) (m.below x lt));
      }
