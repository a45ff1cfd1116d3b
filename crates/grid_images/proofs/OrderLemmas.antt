-- The order of tables: it is total, tables that tie are the same, and the first cells that differ decide.
use Rattle.std.proofs.Common.{◌≡◌, ℕ, zero, suc, ◌+◌, ◌<◌, ◌≤◌, Bool, true, false, List, [], ◌∷◌, length, slice_get, Some, inl, inr, refl, sym, ◌∙◌, ap, arith}
use Rattle.std.specs.Cmp.{IsTotalOrder}
use Rattle.std.specs.Cmp.Lexicographic.{slice_cmp, lists_ties}
use Rattle.std.specs.Ordering.{nat_cmp, ordering_then, is_eq, is_ne, eq_by_cmp}
use Rattle.std.specs.declared.cmp.Ordering.{Ordering}
use Rattle.std.specs.declared.cmp.Ordering.TheVariants.{Less, Equal, Greater}
use Rattle.std.proofs.lemmas.Bool.{cases_lt}
use Rattle.std.proofs.lemmas.Cmp.{ranked, nat_cmp_total, on_total, then_total, lists_total, tied_itself}
use Rattle.grid.specs.Same.{sizes_agree}
use Rattle.grid_base.specs.Table.{row_count, col_count}
use Rattle.grid_images.specs.Images.{same_table}
use Rattle.grid_images.specs.TableOrder.{table_cmp}

-- two orderings before a third change no tie, if they tie where it does
tied_behind : (a b c : Ordering) → (c ≡ Equal → a ≡ Equal) → (c ≡ Equal → b ≡ Equal) → is_eq (ordering_then a (ordering_then b c)) ≡ is_eq c
tied_behind a b Equal f g = ap (λ o. is_eq (ordering_then o (ordering_then b Equal))) (f refl) ∙ ap (λ o. is_eq (ordering_then o Equal)) (g refl)
tied_behind Less b Less f g = refl
tied_behind Less b Greater f g = refl
tied_behind Greater b Less f g = refl
tied_behind Greater b Greater f g = refl
tied_behind Equal Less Less f g = refl
tied_behind Equal Less Greater f g = refl
tied_behind Equal Equal Less f g = refl
tied_behind Equal Equal Greater f g = refl
tied_behind Equal Greater Less f g = refl
tied_behind Equal Greater Greater f g = refl

same_nat : (m n : ℕ) → m ≡ n → nat_cmp m n ≡ Equal
same_nat m n e = ap (nat_cmp m) (sym e) ∙ tied_itself nat_cmp_total m

module _ {T : Type 0} (cmp : T → T → Ordering) where
  pub table_cmp_total : IsTotalOrder cmp → IsTotalOrder (table_cmp cmp)
  unfolding table_cmp
  table_cmp_total o =
      then_total (on_total row_count nat_cmp_total) (then_total (on_total col_count nat_cmp_total) (lists_total (lists_total o)))

  module _ (eq : T → T → Bool) (ties : (x y : T) → eq x y ≡ eq_by_cmp cmp x y) where
    cells_tie : (t u : List (List T)) → same_table eq t u ≡ is_eq (slice_cmp (slice_cmp cmp) t u)
    cells_tie t u = lists_ties (slice_cmp cmp) (lists_ties cmp ties) t u

    -- tables tie exactly if they are the same
    pub tables_tie : (t u : List (List T)) → is_eq (table_cmp cmp t u) ≡ same_table eq t u
    unfolding table_cmp
    tables_tie t u =
        let same : slice_cmp (slice_cmp cmp) t u ≡ Equal → same_table eq t u ≡ true = λ e. cells_tie t u ∙ ap is_eq e in
        tied_behind (nat_cmp (row_count t) (row_count u)) (nat_cmp (col_count t) (col_count u)) (slice_cmp (slice_cmp cmp) t u)
        (λ e. same_nat (row_count t) (row_count u) (sizes_agree eq t u (same e)).0)
        (λ e. same_nat (col_count t) (col_count u) (sizes_agree eq t u (same e)).1)
        ∙ sym (cells_tie t u)

  -- tables of one size are compared row by row
  pub by_rows : (t u : List (List T)) → row_count t ≡ row_count u → col_count t ≡ col_count u → table_cmp cmp t u ≡ slice_cmp (slice_cmp cmp) t u
  unfolding table_cmp
  by_rows t u rows cols =
      ap (λ o. ordering_then o (ordering_then (nat_cmp (col_count t) (col_count u)) (slice_cmp (slice_cmp cmp) t u))) (same_nat (row_count t) (row_count u) rows)
      ∙ ap (λ o. ordering_then o (slice_cmp (slice_cmp cmp) t u)) (same_nat (col_count t) (col_count u) cols)

-- ---- lists compared item by item

decided : (o r : Ordering) → is_ne o ≡ true → ordering_then o r ≡ o
decided Less r d = refl
decided Greater r d = refl
decided Equal r d = absurd (cc)

is_tied : (o : Ordering) → is_ne o ≡ false → o ≡ Equal
is_tied Equal d = refl
is_tied Less d = absurd (cc)
is_tied Greater d = absurd (cc)

module _ {X : Type 0} (cmp : X → X → Ordering) where
  -- the first k items tie
  abbrev pub AreTied : ℕ → List X → List X → Type 0
  AreTied k xs ys = (j : ℕ) (v w : X) → j < k → slice_get xs j ≡ Some v → slice_get ys j ≡ Some w → cmp v w ≡ Equal

  -- the first items that don't tie decide
  pub first_decides : (xs ys : List X) (k : ℕ) (x y : X) → AreTied k xs ys → slice_get xs k ≡ Some x → slice_get ys k ≡ Some y → is_ne (cmp x y) ≡ true → cmp x y ≡ slice_cmp cmp xs ys
  first_decides [] ys k x y ties p q d = absurd (cc)
  first_decides (a ∷ xs) [] k x y ties p q d = absurd (cc)
  first_decides (a ∷ xs) (b ∷ ys) zero x y ties p q d =
      let x_is : x ≡ a = cc in
      let y_is : y ≡ b = cc in
      sym (decided (cmp x y) (slice_cmp cmp xs ys) d) ∙ (λ i. ordering_then (cmp (x_is i) (y_is i)) (slice_cmp cmp xs ys))
  first_decides (a ∷ xs) (b ∷ ys) (suc k) x y ties p q d =
      first_decides xs ys k x y (λ j v w lt e f. ties (suc j) v w (omega arith) e f) p q d
      ∙ ap (λ o. ordering_then o (slice_cmp cmp xs ys)) (sym (ties 0 a b (omega arith) refl refl))

  -- lists of one length whose items tie
  pub all_tie : (xs ys : List X) (k : ℕ) → length xs ≡ length ys → length xs ≤ k → AreTied k xs ys → Equal ≡ slice_cmp cmp xs ys
  all_tie [] [] k e all ties = refl
  all_tie [] (y ∷ ys) k e all ties = absurd (omega (arith, e))
  all_tie (x ∷ xs) [] k e all ties = absurd (omega (arith, e))
  all_tie (x ∷ xs) (y ∷ ys) zero e all ties = absurd (omega (arith, all))
  all_tie (x ∷ xs) (y ∷ ys) (suc k) e all ties =
      all_tie xs ys k (omega (arith, e)) (omega (arith, all)) (λ j v w lt p q. ties (suc j) v w (omega arith) p q)
      ∙ ap (λ o. ordering_then o (slice_cmp cmp xs ys)) (sym (ties 0 x y (omega arith) refl refl))

  -- one more item ties
  pub AreTied-next : (k : ℕ) (xs ys : List X) (x y : X) → AreTied k xs ys → slice_get xs k ≡ Some x → slice_get ys k ≡ Some y → is_ne (cmp x y) ≡ false → AreTied (k + 1) xs ys
  AreTied-next k xs ys x y ties p q d j v w lt e f =
      elim (cases_lt j k) [
        | inl old ↦ ties j v w old e f
        | inr new ↦ (
            let same : k ≡ j = omega arith in
            let x_is : x ≡ v = cc (p, ap (slice_get xs) same, e) in
            let y_is : y ≡ w = cc (q, ap (slice_get ys) same, f) in
            (λ i. cmp (sym x_is i) (sym y_is i)) ∙ is_tied (cmp x y) d)
      ]

settled : (a b c : Ordering) → is_ne (ordering_then a b) ≡ true → ordering_then a b ≡ ordering_then a (ordering_then b c)
settled Less b c d = refl
settled Greater b c d = refl
settled Equal Less c d = refl
settled Equal Greater c d = refl
settled Equal Equal c d = absurd (cc)

-- sizes that differ decide
pub by_size : {T : Type 0} (cmp : T → T → Ordering) (t u : List (List T)) (r : Ordering) → r ≡ ordering_then (nat_cmp (row_count t) (row_count u)) (nat_cmp (col_count t) (col_count u)) → is_ne r ≡ true → r ≡ table_cmp cmp t u
unfolding table_cmp
by_size cmp t u r e d =
    e ∙ settled (nat_cmp (row_count t) (row_count u)) (nat_cmp (col_count t) (col_count u)) (slice_cmp (slice_cmp cmp) t u) (ap is_ne (sym e) ∙ d)

both_equal : (a b : Ordering) → is_ne (ordering_then a b) ≡ false → (a ≡ Equal) × (b ≡ Equal)
both_equal Equal Equal d = (refl, refl)
both_equal Equal Less d = absurd (cc)
both_equal Equal Greater d = absurd (cc)
both_equal Less b d = absurd (cc)
both_equal Greater b d = absurd (cc)

-- sizes that tie are one
pub one_size : (m n p q : ℕ) (r : Ordering) → r ≡ ordering_then (nat_cmp m p) (nat_cmp n q) → is_ne r ≡ false → (m ≡ p) × (n ≡ q)
one_size m n p q r e d =
    let tied = both_equal (nat_cmp m p) (nat_cmp n q) (ap is_ne (sym e) ∙ d) in
    (ranked m p Equal (sym tied.0), ranked n q Equal (sym tied.1))
