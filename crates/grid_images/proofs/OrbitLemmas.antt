-- The symmetries of a table are a group, and its different images are each given once.
use Rattle.std.proofs.Common.{◌≡◌, ℕ, zero, suc, ◌+◌, ◌*◌, ◌<◌, ◌≤◌, ◌↔◌, IsTrue, Bool, true, false, not, List, [], ◌∷◌, ◌++◌, length, take, get_or, inl, inr, refl, sym, ◌∙◌, ap, subst, arith}
use Rattle.std.specs.Cmp.{IsEquivalence, both_ways}
use Rattle.std.specs.List.{Contains, filter, list_any}
use Rattle.std.specs.Prelude.{cond, find, Some, None}
use Rattle.std.proofs.lemmas.Bool.{cases_lt}
use Rattle.std.proofs.lemmas.List.{append-nil, length-take-le}
use Rattle.std.proofs.lemmas.List.Elements.{filter_agree, filter_more}
use Rattle.std.proofs.lemmas.List.Filters.{length-filter_both}
use Rattle.grid_base.proofs.ActLemmas.{IsTable-act}
use Rattle.grid_base.proofs.GroupLemmas.{act-identity, then_acts, then_is, inverse_acts, inverse_is, inverse_of, identity_product, product_assoc, product_identity, IsThen-product}
use Rattle.grid_base.proofs.Lemmas.{product}
use Rattle.grid_base.specs.Symmetry.{act, symmetries, IsThen, IsInverse}
use Rattle.grid_base.specs.Table.{IsTable}
use Rattle.grid_base.specs.declared.words.Symmetry.{Symmetry}
use Rattle.grid_base.specs.declared.words.Symmetry.TheVariants.{Identity}
use Rattle.grid_images.specs.Images.{DiffersBy, GivesEachImageOnce, IsGroup, first_images, first_taking, fixing, give_one_image, is_first, number, same_table, symmetry_at, takes}
use Rattle.grid_images.proofs.CountLemmas.{is_new, times_eight}
use Rattle.grid_images.proofs.ImageLemmas.{images_same, tables_equiv, one_image}
use Rattle.grid_images.proofs.NumberLemmas.{Contains-filter, any_before, at-number, one_before, each_there, number_small, number-at, passes_kept, same_number, undoing, undone, undone_before}

module _ {T : Type 0} (eq : T → T → Bool) where
  -- what leaves a table as it is
  pub has_fixing : (t : List (List T)) (s : Symmetry) → Contains (fixing eq t) s ↔ IsTrue (takes eq t t s)
  unfolding fixing
  has_fixing t s = (passes_kept (takes eq t t) symmetries s, Contains-filter (takes eq t t) symmetries s (each_there s))

  pub has_first : (t : List (List T)) (s : Symmetry) → Contains (first_images eq t) s ↔ IsTrue (is_first eq t s)
  unfolding first_images
  has_first t s = (passes_kept (is_first eq t) symmetries s, Contains-filter (is_first eq t) symmetries s (each_there s))

short : (p : Symmetry → Bool) (xs : List Symmetry) → length (filter p xs) ≤ length xs
short p xs = omega (arith, length-filter_both p (λ x. not (p x)) (λ x. refl) xs)

-- what keeps as many items keeps all
filter_full : (p : Symmetry → Bool) (xs : List Symmetry) → length (filter p xs) ≡ length xs → filter p xs ≡ xs
filter_full p [] e = refl
filter_full p (x ∷ xs) e = by (p x) (filter_full p xs) e
  where
    by : (b : Bool) → (length (filter p xs) ≡ length xs → filter p xs ≡ xs) → length (cond b (x ∷ filter p xs) (filter p xs)) ≡ suc (length xs) → cond b (x ∷ filter p xs) (filter p xs) ≡ x ∷ xs
    by true rest e = ap (λ ys. x ∷ ys) (rest (omega (arith, e)))
    by false rest e = absurd (omega (arith, e, short p xs))

-- what undoes a symmetry, and what joins two, is one symmetry
undoing_is : (s v : Symmetry) → IsInverse s v → v ≡ undoing s
undoing_is s v h =
    sym (identity_product v)
    ∙ (ap (λ x. product x v) (sym (undone_before s))
    ∙ (product_assoc (undoing s) s v ∙ (ap (product (undoing s)) (inverse_is s v h) ∙ product_identity (undoing s))))

-- s and then what undoes u are f, exactly if what undoes f and then s are u
module _ (f s u : Symmetry) where
  quotient_after : product (undoing f) s ≡ u → product s (undoing u) ≡ f
  quotient_after e =
      let whole : s ≡ product f u = sym (identity_product s) ∙ (ap (λ x. product x s) (sym (undone f)) ∙ (product_assoc f (undoing f) s ∙ ap (product f) e)) in
      ap (λ x. product x (undoing u)) whole ∙ (product_assoc f u (undoing u) ∙ (ap (product f) (undone u) ∙ product_identity f))

  quotient_before : product s (undoing u) ≡ f → product (undoing f) s ≡ u
  quotient_before e =
      let whole : s ≡ product f u = sym (product_identity s) ∙ (ap (product s) (sym (undone_before u)) ∙ (sym (product_assoc s (undoing u) u) ∙ ap (λ x. product x u) e)) in
      ap (product (undoing f)) whole ∙ (sym (product_assoc (undoing f) f u) ∙ (ap (λ x. product x u) (undone_before f) ∙ identity_product u))

pub undone_then : (f s v u : Symmetry) → IsInverse f v → IsThen v s u → product (undoing f) s ≡ u
undone_then f s v u undoes joins = ap (λ x. product x s) (sym (undoing_is f v undoes)) ∙ sym (then_is v s u joins)

-- what undoes a member, and then s, differs from s by a member
pub member_differs : (ss : List Symmetry) (f s v u : Symmetry) → Contains ss f → IsInverse f v → IsThen v s u → DiffersBy ss s u
member_differs ss f s v u member undoes joins =
    let is = undone_then f s v u undoes joins in
    record {
      back = undoing u;
      joined = f;
      undoes = inverse_of u (undoing u) (undone u);
      joins = subst (IsThen s (undoing u)) (quotient_after f s u is) (IsThen-product s (undoing u));
      member = member;
    }

-- and each is found so
pub differs_member : (ss : List Symmetry) (s u : Symmetry) → DiffersBy ss s u → (f : Symmetry) × Contains ss f × (product (undoing f) s ≡ u)
differs_member ss s u d =
    let joined : product s (undoing u) ≡ d.joined = ap (product s) (sym (undoing_is u d.back d.undoes)) ∙ sym (then_is s d.back d.joined d.joins) in
    (d.joined, d.member, quotient_before d.joined s u joined)

module _ {T : Type 0} {eq : T → T → Bool} (laws : IsEquivalence eq) (t : List (List T)) (h : IsTable t) where
  pub takes_identity : takes eq t t Identity ≡ true
  takes_identity = ap (λ u. same_table eq u t) (act-identity t h) ∙ (tables_equiv laws).refl t

  both_take : (s u v : Symmetry) → takes eq t t s ≡ true → takes eq t t u ≡ true → IsThen s u v → takes eq t t v ≡ true
  both_take s u v a b is =
      let turned = images_same eq u (act s t) t (IsTable-act s t h) h a in
      ap (λ x. same_table eq x t) (then_acts s u v is t h) ∙ ((tables_equiv laws).congr (act u (act s t)) (act u t) t turned ∙ b)

  back_takes : (s v : Symmetry) → takes eq t t s ≡ true → IsInverse s v → takes eq t t v ≡ true
  back_takes s v a is =
      let turned = images_same eq v (act s t) t (IsTable-act s t h) h a in
      (tables_equiv laws).symm (act v t) t ∙ (sym (λ i. same_table eq (inverse_acts s v is t h i) (act v t)) ∙ turned)

  pub IsGroup-fixing : IsGroup (fixing eq t)
  IsGroup-fixing = record {
    identity = (has_fixing eq t Identity).1 takes_identity;
    joined = λ s u v a b is. (has_fixing eq t v).1 (both_take s u v ((has_fixing eq t s).0 a) ((has_fixing eq t u).0 b) is);
    inverse = λ s v a is. (has_fixing eq t v).1 (back_takes s v ((has_fixing eq t s).0 a) is);
  }

  -- ---- the different images

  one_with : (s u v : Symmetry) → give_one_image eq t s u ≡ true → give_one_image eq t u v ≡ true → give_one_image eq t s v ≡ true
  one_with s u v a b = (tables_equiv laws).congr (act s t) (act u t) (act v t) a ∙ b

  one_back : (s u : Symmetry) → give_one_image eq t s u ≡ true → give_one_image eq t u s ≡ true
  one_back s u a = (tables_equiv laws).symm (act u t) (act s t) ∙ a

  -- of two symmetries that give one image, the later isn't the first
  not_later : (s u : Symmetry) → number s < number u → give_one_image eq t s u ≡ true → is_first eq t u ≡ true → ⊥
  not_later s u lt a first =
      let before = any_before (λ w. give_one_image eq t w u) s (number u) lt (omega (arith, number_small u)) a in
      let no : true ≡ false = sym first ∙ ap not before in
      absurd (cc)

  once : (s u : Symmetry) → is_first eq t s ≡ true → is_first eq t u ≡ true → give_one_image eq t s u ≡ true → s ≡ u
  once s u a b same =
      elim (cases_lt (number s) (number u)) [
        | inl lt ↦ absurd (not_later s u lt same b)
        | inr le ↦ elim (cases_lt (number u) (number s)) [
          | inl lt ↦ absurd (not_later u s lt (one_back s u same) a)
          | inr ge ↦ same_number s u (omega arith)
        ]
      ]

  -- the first symmetry that gives the image of s, where those before the n-th are searched
  first_of_image : (n : ℕ) (s : Symmetry) → number s < n → (u : Symmetry) × (is_first eq t u ≡ true) × (give_one_image eq t u s ≡ true)
  first_of_image zero s lt = absurd (omega arith)
  first_of_image (suc n) s lt = by (list_any (λ w. give_one_image eq t w s) (take (number s) symmetries)) refl (first_of_image n)
    where
      by : (b : Bool) → list_any (λ w. give_one_image eq t w s) (take (number s) symmetries) ≡ b → ((w : Symmetry) → number w < n → (u : Symmetry) × (is_first eq t u ≡ true) × (give_one_image eq t u w ≡ true)) → (u : Symmetry) × (is_first eq t u ≡ true) × (give_one_image eq t u s ≡ true)
      by false e before = (s, ap not e, (tables_equiv laws).refl (act s t))
      by true e before =
          let found = one_before (λ w. give_one_image eq t w s) (number s) (omega (arith, number_small s)) e in
          let first = before found.0 (omega (arith, found.1)) in
          (first.0, first.1, one_with first.0 found.0 s first.2 found.2)

  pub each_once : GivesEachImageOnce eq t (first_images eq t)
  each_once = record {
    each = λ s. let first = first_of_image 8 s (number_small s) in (first.0, (has_first eq t first.0).1 first.1, first.2);
    once = λ s u a b same. once s u ((has_first eq t s).0 a) ((has_first eq t u).0 b) same;
  }

  pub orbit_count : length (first_images eq t) * length (fixing eq t) ≡ 8
  unfolding first_images fixing
  orbit_count =
      let one = λ (s : Symmetry). ap not (λ i. list_any (λ u. one_image laws u s t h i) (take (number s) symmetries)) in
      ap (λ ss. length ss * length (filter (takes eq t t) symmetries)) (filter_agree (is_first eq t) (is_new (takes eq t t)) one symmetries)
      ∙ times_eight (takes eq t t) (record { identity = takes_identity; joined = λ s u a b. both_take s u (product s u) a b (IsThen-product s u) })

  -- where only Identity leaves the table as it is, each symmetry gives another image
  pub all_first : length (fixing eq t) ≡ 1 → symmetries ≡ first_images eq t
  unfolding first_images
  all_first one =
      let count = ap (λ n. length (first_images eq t) * n) (sym one) ∙ orbit_count in
      sym (filter_full (is_first eq t) symmetries (omega (arith, count)))

  -- ---- two symmetries that give one image

  pub differs_told : (i : ℕ) (b : Bool) → i < 8 → IsTrue b ↔ ((k : ℕ) × (k < i) × DiffersBy (fixing eq t) (symmetry_at i) (symmetry_at k)) → b ≡ list_any (λ s. give_one_image eq t s (symmetry_at i)) (take i symmetries)
  differs_told i b lt is = both_ways _ _ there here
    where
      there : b ≡ true → list_any (λ s. give_one_image eq t s (symmetry_at i)) (take i symmetries) ≡ true
      there e =
          let found = is.0 e in
          let u = symmetry_at found.0 in
          let d = found.2 in
          let joined : d.joined ≡ product (symmetry_at i) (undoing u) = then_is (symmetry_at i) d.back d.joined d.joins ∙ ap (product (symmetry_at i)) (undoing_is u d.back d.undoes) in
          let passes : give_one_image eq t u (symmetry_at i) ≡ true = one_image laws u (symmetry_at i) t h ∙ (ap (takes eq t t) (sym joined) ∙ (has_fixing eq t d.joined).0 d.member) in
          any_before (λ s. give_one_image eq t s (symmetry_at i)) u i (omega (arith, number-at found.0 (omega (arith, found.1, lt)), found.1)) (omega (arith, lt)) passes

      here : list_any (λ s. give_one_image eq t s (symmetry_at i)) (take i symmetries) ≡ true → b ≡ true
      here e =
          let found = one_before (λ s. give_one_image eq t s (symmetry_at i)) i (omega (arith, lt)) e in
          let u = symmetry_at (number found.0) in
          let passes : give_one_image eq t u (symmetry_at i) ≡ true = ap (λ s. give_one_image eq t s (symmetry_at i)) (at-number found.0) ∙ found.2 in
          is.1 (
            number found.0,
            found.1,
            record {
              back = undoing u;
              joined = product (symmetry_at i) (undoing u);
              undoes = inverse_of u (undoing u) (undone u);
              joins = IsThen-product (symmetry_at i) (undoing u);
              member = (has_fixing eq t (product (symmetry_at i) (undoing u))).1 (sym (one_image laws u (symmetry_at i) t h) ∙ passes);
            },
          )

-- ---- the loops

module _ (p : Symmetry → Bool) where
  -- not all are kept yet
  pub has_room : (i : ℕ) → i < 8 → (set : List Symmetry) → set ≡ filter p (take i symmetries) → length set < 8
  has_room i lt set is = omega (arith, ap length is, short p (take i symmetries), length-take-le i symmetries (omega arith))

  pub kept_first : p Identity ≡ true → (new : List Symmetry) → new ≡ Identity ∷ [] → new ≡ filter p (take 1 symmetries)
  kept_first passes new is = is ∙ ap (λ b. cond b (Identity ∷ []) []) (sym passes)

  pub kept_more : (i : ℕ) → i < 8 → (set new : List Symmetry) → set ≡ filter p (take i symmetries) → p (symmetry_at i) ≡ true → new ≡ set ++ symmetry_at i ∷ [] → new ≡ filter p (take (i + 1) symmetries)
  kept_more i lt set new is passes added =
      added
      ∙ (ap (λ xs. xs ++ symmetry_at i ∷ []) is
      ∙ (ap (λ b. filter p (take i symmetries) ++ cond b (symmetry_at i ∷ []) []) (sym passes) ∙ sym (filter_more p symmetries i Identity lt)))

  pub left_out : (i : ℕ) → i < 8 → (set : List Symmetry) → set ≡ filter p (take i symmetries) → p (symmetry_at i) ≡ false → set ≡ filter p (take (i + 1) symmetries)
  left_out i lt set is fails =
      is
      ∙ (sym (append-nil (filter p (take i symmetries)))
      ∙ (ap (λ b. filter p (take i symmetries) ++ cond b (symmetry_at i ∷ []) []) (sym fails) ∙ sym (filter_more p symmetries i Identity lt)))

  pub all_kept : (i : ℕ) → i ≡ 8 → (set : List Symmetry) → set ≡ filter p (take i symmetries) → set ≡ filter p symmetries
  all_kept i e set is = is ∙ ap (λ n. filter p (take n symmetries)) e

-- symmetry i is the first of its image, where none before it gives it
pub first_told : {T : Type 0} (eq : T → T → Bool) (t : List (List T)) (i : ℕ) (b : Bool) → i < 8 → b ≡ list_any (λ s. give_one_image eq t s (symmetry_at i)) (take i symmetries) → is_first eq t (symmetry_at i) ≡ not b
first_told eq t i b lt e =
    ap (λ n. not (list_any (λ u. give_one_image eq t u (symmetry_at i)) (take n symmetries))) (number-at i lt) ∙ ap not (sym e)

found_here : (p : Symmetry → Bool) (xs : List Symmetry) (k : ℕ) → k < length xs → ((j : ℕ) → j < k → p (get_or xs j Identity) ≡ false) → p (get_or xs k Identity) ≡ true → find p xs ≡ Some (get_or xs k Identity)
found_here p [] k lt none passes = absurd (omega arith)
found_here p (x ∷ xs) zero lt none passes = ap (λ b. cond b (Some x) (find p xs)) passes
found_here p (x ∷ xs) (suc k) lt none passes =
    ap (λ b. cond b (Some x) (find p xs)) (none 0 (omega arith)) ∙ found_here p xs k (omega arith) (λ j lj. none (suc j) (omega arith)) passes

none_here : (p : Symmetry → Bool) (xs : List Symmetry) → ((j : ℕ) → j < length xs → p (get_or xs j Identity) ≡ false) → find p xs ≡ None
none_here p [] none = refl
none_here p (x ∷ xs) none =
    ap (λ b. cond b (Some x) (find p xs)) (none 0 (omega arith)) ∙ none_here p xs (λ j lj. none (suc j) (omega arith))

module _ {T : Type 0} (eq : T → T → Bool) (t u : List (List T)) where
  -- the first symmetry that takes t to u is number k, or there is none
  pub taking_here : (k : ℕ) → k < 8 → ((j : ℕ) → j < k → takes eq t u (symmetry_at j) ≡ false) → takes eq t u (symmetry_at k) ≡ true → Some (symmetry_at k) ≡ first_taking eq t u
  unfolding first_taking
  taking_here k lt none passes = sym (found_here (takes eq t u) symmetries k lt none passes)

  pub taking_none : ((j : ℕ) → j < 8 → takes eq t u (symmetry_at j) ≡ false) → None ≡ first_taking eq t u
  unfolding first_taking
  taking_none none = sym (none_here (takes eq t u) symmetries none)
