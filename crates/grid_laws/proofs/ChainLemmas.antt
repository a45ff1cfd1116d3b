-- Lists whose items from a place on come from later places, in their order: as many swaps as such items bring them
-- there, and no fewer do.
use Rattle.std.proofs.Common.{◌≡◌, ℕ, ◌+◌, ◌-◌, ◌<◌, ◌≤◌, List, length, sym, ◌∙◌, ap, arith, ⊎_elim, slice_get}
use Rattle.grid_laws.proofs.Common.{cases_lt, IsLeast}
use Rattle.grid_laws.proofs.OriginLemmas.{origin, makes}
use Rattle.grid_laws.proofs.PigeonLemmas.{AreDifferent, IsAlone, at_least}
use Rattle.grid_laws.proofs.MirrorLemmas.{pairs, length-pairs, pairs_within, origin_other, origin_first}

-- n items come to the places from a on, from later places in their order
pub record IsChain (a n : ℕ) (g : ℕ → ℕ) : Type 0 where
  pub later : (x : ℕ) → x < n → a + x < g x
  pub rising : (x y : ℕ) → x < y → y < n → g x < g y

module _ (a n : ℕ) (g : ℕ → ℕ) (h : IsChain a n g) where
  -- the last pair comes first
  abbrev to : ℕ → ℕ
  to x = a + (n - 1 - x)

  abbrev source : ℕ → ℕ
  source x = g (n - 1 - x)

  sources_different : AreDifferent n source
  sources_different = record {
    different = λ x y p q e.
        ⊎_elim (λ less. let up = h.rising (n - 1 - y) (n - 1 - x) (omega arith) (omega arith) in absurd (omega arith))
        (λ le.
        ⊎_elim (λ more. let up = h.rising (n - 1 - x) (n - 1 - y) (omega arith) (omega arith) in absurd (omega arith)) (λ ge. omega arith) (cases_lt y x))
        (cases_lt x y);
  }

  place_kept : (k : ℕ) → k < a → origin (pairs to source n) k ≡ k
  place_kept k lt =
      origin_other to source n k (λ x p e. absurd (omega arith))
      (λ x p e. let later = h.later (n - 1 - x) (omega arith) in absurd (omega arith))

  place_at : (x : ℕ) → x < n → origin (pairs to source n) (a + x) ≡ g x
  place_at x lt =
      let back : n - 1 - (n - 1 - x) ≡ x = omega arith in
      ap (λ y. origin (pairs to source n) (a + y)) (sym back)
      ∙ (origin_first to source n (n - 1 - x) (record { different = λ x y p q e. omega arith }) sources_different
      (λ x y p q e. let later = h.later (n - 1 - y) (omega arith) in absurd (omega arith)) (omega arith)
      ∙ ap g back)

  pub least_by_chain : {T : Type 0} (xs ys : List T) → length ys ≡ a + n → a + n ≤ length xs → ((x : ℕ) → x < n → g x < length xs) → ((k : ℕ) → k < a → slice_get ys k ≡ slice_get xs k) → ((x : ℕ) → x < n → slice_get ys (a + x) ≡ slice_get xs (g x)) → ((x : ℕ) → x < n → IsAlone xs (g x)) → IsLeast n xs ys
  least_by_chain xs ys ly lx within front behind alone =
      let ps = pairs to source n in
      record {
        reached = (
          ps,
          length-pairs to source n,
          makes ps xs ys (pairs_within to source n (length xs) (λ x p. omega arith) (λ x p. within (n - 1 - x) (omega arith))) (omega arith)
              (λ k lt.
              ⊎_elim (λ low. ap (slice_get xs) (place_kept k low) ∙ sym (front k low))
              (λ high.
              let is : a + (k - a) ≡ k = omega arith in
              ap (λ v. slice_get xs (origin ps v)) (sym is) ∙ (ap (slice_get xs) (place_at (k - a) (omega arith)) ∙ (sym (behind (k - a) (omega arith)) ∙ ap (slice_get ys) is)))
              (cases_lt k a)),
        );
        least = λ qs m. at_least xs ys qs n (λ x. a + x) g alone m (record { different = λ x y p q e. omega arith }) (λ x lt. h.later x lt)
            within (λ x lt. omega arith) behind;
      }
