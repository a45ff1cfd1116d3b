-- The least image of a table: how a loop finds it, and when two tables have the same.
use Rattle.std.proofs.Common.{◌≡◌, ℕ, zero, suc, ◌+◌, ◌<◌, ◌↔◌, IsTrue, Bool, true, false, List, inl, inr, refl, sym, ◌∙◌, ap, subst, arith}
use Rattle.std.specs.Cmp.{IsTotalOrder, IsEquivalence}
use Rattle.std.specs.Ordering.{is_eq, is_le, is_lt, ordering_reverse, eq_by_cmp}
use Rattle.std.specs.declared.cmp.Ordering.{Ordering}
use Rattle.std.specs.declared.cmp.Ordering.TheVariants.{Less, Equal, Greater}
use Rattle.std.proofs.lemmas.Bool.{cases_lt}
use Rattle.std.proofs.lemmas.Cmp.{alike_right, tied_itself}
use Rattle.grid_base.proofs.ActLemmas.{IsTable-act}
use Rattle.grid_base.proofs.GroupLemmas.{act-act, act-identity}
use Rattle.grid_base.proofs.Lemmas.{product}
use Rattle.grid_base.specs.Symmetry.{act}
use Rattle.grid_base.specs.Table.{IsTable}
use Rattle.grid_base.specs.declared.words.Symmetry.{Symmetry}
use Rattle.grid_base.specs.declared.words.Symmetry.TheVariants.{Identity}
use Rattle.grid_images.specs.Images.{AreAlike, IsLeastImage, number, same_table, symmetry_at, takes}
use Rattle.grid_images.specs.TableOrder.{table_cmp}
use Rattle.grid_images.proofs.ImageLemmas.{images_same, tables_equiv, back}
use Rattle.grid_images.proofs.NumberLemmas.{number_small, at-number, number-at, undoing}
use Rattle.grid_images.proofs.OrderLemmas.{table_cmp_total, tables_tie}

-- ---- of any total order

module _ {K : Type 0} {R : K → K → Ordering} (o : IsTotalOrder R) where
  after_less : (x y z : K) (r : Ordering) → r ≡ R y z → R x y ≡ Less → is_le r ≡ true → R x z ≡ Less
  after_less x y z Less e less le = o.trans x y z less (sym e)
  after_less x y z Equal e less le = sym (alike_right o y z x (sym e)) ∙ less
  after_less x y z Greater e less le = absurd (cc)

  turned_le : (r : Ordering) → is_lt r ≡ false → is_le (ordering_reverse r) ≡ true
  turned_le Less h = absurd (cc)
  turned_le Equal h = refl
  turned_le Greater h = refl

  not_above : (x y : K) → is_lt (R y x) ≡ false → is_le (R x y) ≡ true
  not_above x y h = ap is_le (o.antisymm x y) ∙ turned_le (R y x) h

  both_le : (r s : Ordering) → r ≡ ordering_reverse s → is_le r ≡ true → is_le s ≡ true → is_eq r ≡ true
  both_le Less Less e h k = absurd (cc)
  both_le Less Equal e h k = absurd (cc)
  both_le Less Greater e h k = absurd (cc)
  both_le Equal s e h k = refl
  both_le Greater s e h k = absurd (cc)

  le_itself : (x : K) → is_le (R x x) ≡ true
  le_itself x = ap is_le (tied_itself o x)

is_less : (r : Ordering) → is_lt r ≡ true → r ≡ Less
is_less Less h = refl
is_less Equal h = absurd (cc)
is_less Greater h = absurd (cc)

less_le : (r : Ordering) → r ≡ Less → is_le r ≡ true
less_le r e = ap is_le e

is_tie : (r : Ordering) → is_eq r ≡ true → r ≡ Equal
is_tie Equal h = refl
is_tie Less h = absurd (cc)
is_tie Greater h = absurd (cc)

-- ---- the loop

-- s is one of the first i symmetries, its image the least of theirs, and less than those before it
pub record IsLeastOf {T : Type 0} (cmp : T → T → Ordering) (t : List (List T)) (i : ℕ) (s : Symmetry) : Type 0 where
  pub within : number s < i
  pub least : (k : ℕ) → k < i → IsTrue (is_le (table_cmp cmp (act s t) (act (symmetry_at k) t)))
  pub first : (k : ℕ) → k < number s → table_cmp cmp (act s t) (act (symmetry_at k) t) ≡ Less

module _ {T : Type 0} (cmp : T → T → Ordering) (o : IsTotalOrder cmp) (t : List (List T)) where
  pub least_one : IsLeastOf cmp t 1 Identity
  least_one = record { within = omega arith; least = by_index; first = λ k lt. absurd (omega arith) }
    where
      by_index : (k : ℕ) → k < 1 → IsTrue (is_le (table_cmp cmp (act Identity t) (act (symmetry_at k) t)))
      by_index zero lt = le_itself (table_cmp_total cmp o) (act Identity t)
      by_index (suc k) lt = absurd (omega arith)

  module _ (i : ℕ) (s : Symmetry) (small : i < 8) (h : IsLeastOf cmp t i s) where
    -- the next image is less
    pub least_new : is_lt (table_cmp cmp (act (symmetry_at i) t) (act s t)) ≡ true → IsLeastOf cmp t (i + 1) (symmetry_at i)
    least_new lt =
        let total = table_cmp_total cmp o in
        let less = is_less (table_cmp cmp (act (symmetry_at i) t) (act s t)) lt in
        let below : (k : ℕ) → k < i → table_cmp cmp (act (symmetry_at i) t) (act (symmetry_at k) t) ≡ Less = λ k lk.
        after_less total (act (symmetry_at i) t) (act s t) (act (symmetry_at k) t) (table_cmp cmp (act s t) (act (symmetry_at k) t)) refl less (h.least k lk) in
        record {
          within = omega (arith, number-at i small);
          least = λ k lk.
              elim (cases_lt k i) [
                | inl p ↦ less_le (table_cmp cmp (act (symmetry_at i) t) (act (symmetry_at k) t)) (below k p)
                | inr p ↦ (let e : i ≡ k = omega arith in subst (λ j. IsTrue (is_le (table_cmp cmp (act (symmetry_at i) t) (act (symmetry_at j) t)))) e (le_itself total (act (symmetry_at i) t)))
              ];
          first = λ k lk. below k (omega (arith, number-at i small));
        }

    -- it isn't
    pub least_old : is_lt (table_cmp cmp (act (symmetry_at i) t) (act s t)) ≡ false → IsLeastOf cmp t (i + 1) s
    least_old above =
        let at : is_le (table_cmp cmp (act s t) (act (symmetry_at i) t)) ≡ true = not_above (table_cmp_total cmp o) (act s t) (act (symmetry_at i) t) above in
        record {
          within = omega (arith, h.within);
          least = λ k lk.
              elim (cases_lt k i) [
                | inl p ↦ h.least k p
                | inr p ↦ (let e : i ≡ k = omega arith in subst (λ j. IsTrue (is_le (table_cmp cmp (act s t) (act (symmetry_at j) t)))) e at)
              ];
          first = h.first;
        }

  pub least_all : (s : Symmetry) → IsLeastOf cmp t 8 s → IsLeastImage cmp t s
  least_all s h = record {
    least = λ u. subst (λ v. IsTrue (is_le (table_cmp cmp (act s t) (act v t)))) (at-number u) (h.least (number u) (number_small u));
    first = λ u lt. subst (λ v. table_cmp cmp (act s t) (act v t) ≡ Less) (at-number u) (h.first (number u) lt);
  }

-- ---- what the least image says

module _ {T : Type 0} (cmp : T → T → Ordering) (t : List (List T)) (h : IsTable t) (s : Symmetry) (least : IsLeastImage cmp t s) where
  -- a least image is its own
  pub least_own : (new : List (List T)) → new ≡ act s t → IsLeastImage cmp new Identity
  least_own new is = record {
    least = λ u. subst (λ (p : List (List T) × List (List T)). IsTrue (is_le (table_cmp cmp p.0 p.1))) (λ i. (sym same i, sym (image u) i)) (least.least (product s u));
    first = λ u lt. absurd (omega arith);
  }
    where
      same : act Identity new ≡ act s t
      same = ap (act Identity) is ∙ act-identity (act s t) (IsTable-act s t h)

      image : (u : Symmetry) → act u new ≡ act (product s u) t
      image u = ap (act u) is ∙ act-act s u t h

module _ {T : Type 0} (cmp : T → T → Ordering) (o : IsTotalOrder cmp) (eq : T → T → Bool) (laws : IsEquivalence eq) (ties : (x y : T) → eq x y ≡ eq_by_cmp cmp x y) where
  tie_of : (t u : List (List T)) → same_table eq t u ≡ true → table_cmp cmp t u ≡ Equal
  tie_of t u e = is_tie (table_cmp cmp t u) (tables_tie cmp eq ties t u ∙ e)

  -- an image of t is u, so the least image of t is at most each that is one of u
  at_most_alike : (t u : List (List T)) → IsTable t → IsTable u → (s w v : Symmetry) → IsLeastImage cmp t s → takes eq t u w ≡ true → is_le (table_cmp cmp (act s t) (act v u)) ≡ true
  at_most_alike t u h k s w v least e =
      let turned = images_same eq v (act w t) u (IsTable-act w t h) k e in
      let tied = tie_of (act v (act w t)) (act v u) turned in
      let moved : act v (act w t) ≡ act (product w v) t = act-act w v t h in
      let below : is_le (table_cmp cmp (act s t) (act v (act w t))) ≡ true = ap (λ x. is_le (table_cmp cmp (act s t) x)) moved ∙ least.least (product w v) in
      sym (ap is_le (alike_right (table_cmp_total cmp o) (act v (act w t)) (act v u) (act s t) tied)) ∙ below

  -- if s takes t to u, what undoes s takes u to t
  turned_back : (t u : List (List T)) → IsTable t → IsTable u → (w : Symmetry) → takes eq t u w ≡ true → takes eq u t (undoing w) ≡ true
  turned_back t u h k w e =
      let turned = images_same eq (undoing w) (act w t) u (IsTable-act w t h) k e in
      (tables_equiv laws).symm (act (undoing w) u) t ∙ (sym (λ i. same_table eq (back laws w t h i) (act (undoing w) u)) ∙ turned)

  -- two tables have the same least image exactly if one is an image of the other
  pub least_alike : (t u : List (List T)) → IsTable t → IsTable u → (s v : Symmetry) → IsLeastImage cmp t s → IsLeastImage cmp u v → IsTrue (same_table eq (act s t) (act v u)) ↔ AreAlike eq t u
  least_alike t u h k s v least least_too = (there, here)
    where
      there : same_table eq (act s t) (act v u) ≡ true → AreAlike eq t u
      there e =
          let turned = images_same eq (undoing v) (act s t) (act v u) (IsTable-act s t h) (IsTable-act v u k) e in
          record {
            by = product s (undoing v);
            is_image = sym (λ i. same_table eq (act-act s (undoing v) t h i) (back laws v u k i)) ∙ turned;
          }

      here : AreAlike eq t u → same_table eq (act s t) (act v u) ≡ true
      here a =
          let below = at_most_alike t u h k s a.by v least a.is_image in
          let above = at_most_alike u t k h v (undoing a.by) s least_too (turned_back t u h k a.by a.is_image) in
          sym (tables_tie cmp eq ties (act s t) (act v u))
          ∙ both_le (table_cmp_total cmp o) (table_cmp cmp (act s t) (act v u)) (table_cmp cmp (act v u) (act s t)) ((table_cmp_total cmp o).antisymm (act s t) (act v u)) below above

  -- the same, where the second is its own least image
  pub own_alike : (t form new : List (List T)) → IsTable t → IsTable form → (s : Symmetry) → IsLeastImage cmp t s → new ≡ act s t → IsLeastImage cmp form Identity → IsTrue (same_table eq new form) ↔ AreAlike eq t form
  own_alike t form new h k s least is own =
      subst (λ (p : List (List T) × List (List T)). IsTrue (same_table eq p.0 p.1) ↔ AreAlike eq t form) (λ i. (sym is i, act-identity form k i)) (least_alike t form h k s Identity least own)
