-- Cells that a closure replaces, one after another and line by line.
use Rattle.std.proofs.Common.{◌≡◌, ℕ, suc, ◌+◌, ◌<◌, ◌≤◌, Some, List, [], ◌∷◌, zip, length, set, refl, sym, ◌∙◌, arith, ⊎_elim, slice_get, length-set, Bor}
use Rattle.grid_base.proofs.Common.{AllZip, slice_get_within, get_or_from_slice_get, cases_lt, CallableAtCells, CallableFrom, UpdatedFrom}
use Rattle.grid_base.proofs.PlacedCellLemmas.{get-zip}
use Rattle.grid_base.proofs.WriteLemmas.{get-set_same, get-set_other}

module _ {P A : Type 0} (R : P × A → A → Type 0) (ps : List P) (xs : List A) where
  pub updated_none : (i : ℕ) → UpdatedFrom R ps xs i i xs
  updated_none i = record {
    len = refl;
    before = λ k lt. refl;
    behind = λ k le. refl;
    answers = λ k at x y ge lt hp hx hy. absurd (omega arith);
  }

  -- one more cell
  pub updated_cell : (ys : List A) (i j k : ℕ) (at : P) (x y : A) → UpdatedFrom R ps xs i j ys → i ≤ j → k ≡ j + 1 → slice_get ps j ≡ Some at → slice_get xs j ≡ Some x → R (at, x) y → UpdatedFrom R ps xs i k (set ys j y)
  updated_cell ys i j k at x y u le next hp hx r =
      let lt : j < length ys = omega (arith, u.len, slice_get_within xs j x hx) in
      let other : (n : ℕ) → (n ≡ j → ⊥) → slice_get (set ys j y) n ≡ slice_get ys n = λ n ne. get-set_other ys j n y ne in
      record {
        len = length-set ys j y ∙ u.len;
        before = λ n low. other n (λ e. absurd (omega arith)) ∙ u.before n low;
        behind = λ n high. other n (λ e. absurd (omega arith)) ∙ u.behind n (omega arith);
        answers = λ n p a b ge low gp ga gb. ⊎_elim
            (λ old. u.answers n p a b ge old gp ga (sym (other n (λ e. absurd (omega arith))) ∙ gb))
            (λ past.
            let e : n ≡ j = omega arith in
            let written : slice_get (set ys j y) j ≡ Some y = get-set_same ys j y lt in
            let ep : p ≡ at = cc in
            let ea : a ≡ x = cc in
            let eb : b ≡ y = cc in
            rw (ep, ea, eb) r)
            (cases_lt n j);
      }

  -- and the cells from where they end on
  pub updated_join : (ys zs : List A) (i j k : ℕ) → UpdatedFrom R ps xs i j ys → UpdatedFrom R ps ys j k zs → i ≤ j → j ≤ k → UpdatedFrom R ps xs i k zs
  updated_join ys zs i j k u v ij jk = record {
    len = v.len ∙ u.len;
    before = λ n low. v.before n (omega arith) ∙ u.before n low;
    behind = λ n high. v.behind n high ∙ u.behind n (omega arith);
    answers = λ n p a b ge low gp ga gb. ⊎_elim
        (λ old. u.answers n p a b ge old gp ga (sym (v.before n old) ∙ gb))
        (λ past. v.answers n p a b past low gp (u.behind n past ∙ ga) gb)
        (cases_lt n j);
  }

-- the pairs of two lists and the items of a third, place by place
all_pairs : {P A B : Type 0} (R : P × A → B → Type 0) (ps : List P) (xs : List A) (ys : List B) → length ps ≡ length xs → length ys ≡ length xs → ((n : ℕ) (p : P) (x : A) (y : B) → slice_get ps n ≡ Some p → slice_get xs n ≡ Some x → slice_get ys n ≡ Some y → R (p, x) y) → AllZip R (zip ps xs) ys
all_pairs R [] [] [] e f h = tt
all_pairs R [] [] (y ∷ ys) e f h = absurd (omega arith)
all_pairs R [] (x ∷ xs) ys e f h = absurd (omega arith)
all_pairs R (p ∷ ps) [] ys e f h = absurd (omega arith)
all_pairs R (p ∷ ps) (x ∷ xs) [] e f h = absurd (omega arith)
all_pairs R (p ∷ ps) (x ∷ xs) (y ∷ ys) e f h =
    (h 0 p x y refl refl refl, all_pairs R ps xs ys (omega arith) (omega arith) (λ n. h (suc n)))

-- all cells
pub updated_all : {P A : Type 0} (R : P × A → A → Type 0) (ps : List P) (xs ys : List A) (n : ℕ) → length ps ≡ length xs → length xs ≤ n → UpdatedFrom R ps xs 0 n ys → AllZip R (zip ps xs) ys
updated_all R ps xs ys n e le u =
    all_pairs R ps xs ys e u.len (λ k p x y hp hx hy. u.answers k p x y (omega arith) (omega (arith, slice_get_within xs k x hx)) hp hx hy)

-- the closure can be called at the cells that are not replaced yet
pub callable_from : {F P A : Type 0} (takes : F → P → Bor A → Type 0) (f : F) (ps : List P) (xs ys : List A) (i : ℕ) → CallableAtCells takes f (zip ps xs) → ((k : ℕ) → i ≤ k → slice_get ys k ≡ slice_get xs k) → CallableFrom takes f ps ys i
callable_from {P = P} {A} takes f ps xs ys i h same = record {
  at = λ k at p ge hp hy.
      let both : slice_get (zip ps xs) k ≡ Some (at, p.now) = get-zip ps xs k at p.now hp (sym (same k ge) ∙ hy) in
      h.at k at p (slice_get_within (zip ps xs) k (at, p.now) both) (sym (get_or_from_slice_get (zip ps xs) k (at, p.now) (at, p.now) both));
}
