-- A loop that counts the cells around a cell at which a closure answers true.
use Rattle.std.proofs.Common.{◌≡◌, ℕ, suc, ◌+◌, ◌≤◌, inl, inr, Bool, true, false, cond, List, [], ◌∷◌, length, refl, subst, sym, ◌∙◌, ap, arith, count_by, Bor}
use Rattle.grid_near.proofs.Common.{sum_by-cons, MayCount, CountsNear}
use Rattle.grid_near.specs.NearCounts.{CallableNear}

abbrev weight : Bool → ℕ
weight b = cond b 1 0

module _ {F T : Type 0} (takes : F → Bor T → Type 0) (returns : F → Bor T → Bool → Type 0) (f : F) (near : List ((ℕ × ℕ) × T)) where
  -- `count` of the cells that were passed answer true, and `rest` are left
  pub record Counting (rest : List ((ℕ × ℕ) × T)) (count : ℕ) : Type 0 where
    pub short : count + length rest ≤ length near
    pub callable : CallableNear takes f rest
    pub counts : (p : (ℕ × ℕ) × T → Bool) → ((at : ℕ × ℕ) (x : Bor T) (b : Bool) → returns f x b → p (at, x.now) ≡ b) → count + count_by p rest ≡ count_by p near
    pub may : (k : ℕ) → MayCount returns f rest k → MayCount returns f near (count + k)

  module _ (rest left : List ((ℕ × ℕ) × T)) (count : ℕ) (at : ℕ × ℕ) (x : Bor T) (e : rest ≡ (at, x.now) ∷ left) (h : Counting rest count) where
    pub counting_takes : takes f x
    counting_takes =
        let Can : List ((ℕ × ℕ) × T) → Type 0 = λ r. CallableNear takes f r in
        let can : Can ((at, x.now) ∷ left) = subst Can e h.callable in
        can.at 0 x (omega arith) refl

    callable_left : CallableNear takes f left
    callable_left =
        let Can : List ((ℕ × ℕ) × T) → Type 0 = λ r. CallableNear takes f r in
        let can : Can ((at, x.now) ∷ left) = subst Can e h.callable in
        record { at = λ k p lt is. can.at (suc k) p (omega arith) is }

    short_left : suc (count + length left) ≤ length near
    short_left = omega (arith, h.short, ap length e)

    pub counting_yes : returns f x true → Counting left (count + 1)
    counting_yes said = record {
      short = omega (arith, short_left);
      callable = callable_left;
      counts = λ p says.
          let one : weight (p (at, x.now)) ≡ 1 = ap weight (says at x true said) in
          let all : count + (weight (p (at, x.now)) + count_by p left) ≡ count_by p near = ap (λ n. count + n) (sym (sum_by-cons (λ i. weight (p i)) (at, x.now) left)) ∙ (ap (λ r. count + count_by p r) (sym e) ∙ h.counts p says) in
          omega (arith, one, all);
      may = λ k m. subst (MayCount returns f near) (omega arith) (h.may (suc k) (subst (λ r. MayCount returns f r (suc k)) (sym e) (inr (k, refl, (x, refl, said), m))));
    }

    pub counting_no : returns f x false → Counting left count
    counting_no said = record {
      short = omega (arith, short_left);
      callable = callable_left;
      counts = λ p says.
          let one : weight (p (at, x.now)) ≡ 0 = ap weight (says at x false said) in
          let all : count + (weight (p (at, x.now)) + count_by p left) ≡ count_by p near = ap (λ n. count + n) (sym (sum_by-cons (λ i. weight (p i)) (at, x.now) left)) ∙ (ap (λ r. count + count_by p r) (sym e) ∙ h.counts p says) in
          omega (arith, one, all);
      may = λ k m. h.may k (subst (λ r. MayCount returns f r k) (sym e) (inl ((x, refl, said), m)));
    }

  pub counting_ended : (rest : List ((ℕ × ℕ) × T)) (count : ℕ) → rest ≡ [] → Counting rest count → CountsNear returns f near count
  counting_ended rest count e h = record {
    tested = λ p says. omega (arith, subst (λ r. count + count_by p r ≡ count_by p near) e (h.counts p says));
    answers = subst (MayCount returns f near) (omega arith) (h.may 0 (subst (λ r. MayCount returns f r 0) (sym e) refl));
  }
