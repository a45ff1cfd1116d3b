-- Values that are named by others, as rows by their indices: what a sort of the names says of the values.
use Rattle.std.proofs.Common.{◌≡◌, ℕ, ◌+◌, ◌⊎◌, inl, inr, Bool, true, false, true≢false, not, ◌&&◌, List, [], ◌∷◌, length, get_or, map, filter, cond, refl, sym, ap, ◌∙◌, subst, arith, IsPermutation, IsSortedBy}
use Rattle.grid_base.proofs.Common.{get_or-map, length-map, filter_agree, fill_by_all, IsPermutation-map, IsStrictWeakOrder, range_with_len, IsStableBy, ties}

same_answer : (a b : Bool) → (a ≡ false → b ≡ false) → (b ≡ false → a ≡ false) → a ≡ b
same_answer true true p q = refl
same_answer true false p q = q refl
same_answer false b p q = sym (p refl)

neither : (a b : Bool) → not a && not b ≡ true → (a ≡ false) × (b ≡ false)
neither true b e = absurd (true≢false (sym e))
neither false true e = absurd (true≢false (sym e))
neither false false e = (refl, refl)

module _ {X : Type 0} (lt : X → X → Bool) (o : IsStrictWeakOrder lt) where
  -- what ties with x ties with the same values as x
  ties_alike : (x y z : X) → ties lt x y ≡ true → ties lt x z ≡ ties lt y z
  ties_alike x y z e =
      let n = neither (lt x y) (lt y x) e in
      let less : lt x z ≡ lt y z = same_answer _ _ (o.chain y x z n.1) (o.chain x y z n.0) in
      let more : lt z x ≡ lt z y = same_answer _ _ (λ h. o.chain z x y h n.0) (λ h. o.chain z y x h n.1) in
      λ i. not (less i) && not (more i)

module _ {A X : Type 0} (f : A → X) (lt : X → X → Bool) where
  -- the order of the values, as one of the names
  abbrev pub less_by : A → A → Bool
  less_by a b = lt (f a) (f b)

  pub order_by : IsStrictWeakOrder lt → IsStrictWeakOrder less_by
  order_by o = record {
    one_way = λ a b. o.one_way (f a) (f b);
    chain = λ a b c. o.chain (f a) (f b) (f c);
  }

  pub sorted_values : (ns : List A) (a : A) → IsSortedBy less_by ns → IsSortedBy lt (map f ns)
  sorted_values ns a s = λ k d low high.
      let long : length (map f ns) ≡ length ns = length-map ns f in
      rw (get_or-map f ns (k + 1) a d (omega (arith, long)), get_or-map f ns k a d (omega (arith, long))) (s k a low (omega (arith, long)))

  more_values : (p : X → Bool) (n : A) (b : Bool) (xs : List X) (ns : List A) → xs ≡ map f ns → cond b (f n ∷ xs) xs ≡ map f (cond b (n ∷ ns) ns)
  more_values p n true xs ns e = ap (λ l. f n ∷ l) e
  more_values p n false xs ns e = e

  filter_values : (p : X → Bool) (ns : List A) → filter p (map f ns) ≡ map f (filter (λ a. p (f a)) ns)
  filter_values p [] = refl
  filter_values p (n ∷ ns) = more_values p n (p (f n)) _ _ (filter_values p ns)

  -- a value that ties with x, or none that does
  found : (x : X) (ns : List A) → ((a : A) × (ties lt x (f a) ≡ true)) ⊎ (filter (ties lt x) (map f ns) ≡ [])
  found x [] = inr refl
  found x (n ∷ ns) = by (ties lt x (f n)) refl (found x ns)
    where
      by : (b : Bool) → ties lt x (f n) ≡ b → ((a : A) × (ties lt x (f a) ≡ true)) ⊎ (filter (ties lt x) (map f ns) ≡ []) → ((a : A) × (ties lt x (f a) ≡ true)) ⊎ (filter (ties lt x) (map f (n ∷ ns)) ≡ [])
      by true e rest = inl (n, e)
      by false e (inl there) = inl there
      by false e (inr none) = inr (ap (λ b. cond b (f n ∷ filter (ties lt x) (map f ns)) (filter (ties lt x) (map f ns))) e ∙ none)

  pub stable_values : IsStrictWeakOrder lt → (ns ms : List A) → IsStableBy less_by ns ms → IsStableBy lt (map f ns) (map f ms)
  stable_values o ns ms s = λ x. by x (found x ns) (found x ms)
    where
      as_named : (x : X) (a : A) → ties lt x (f a) ≡ true → filter (ties lt x) (map f ms) ≡ filter (ties lt x) (map f ns)
      as_named x a e =
          let alike = filter_agree (ties lt x) (ties lt (f a)) (λ z. ties_alike lt o x (f a) z e) in
          let named = filter_values (ties lt (f a)) in
          alike (map f ms) ∙ (named ms ∙ (ap (map f) (s a) ∙ (sym (named ns) ∙ sym (alike (map f ns)))))

      by : (x : X) → ((a : A) × (ties lt x (f a) ≡ true)) ⊎ (filter (ties lt x) (map f ns) ≡ []) → ((a : A) × (ties lt x (f a) ≡ true)) ⊎ (filter (ties lt x) (map f ms) ≡ []) → filter (ties lt x) (map f ms) ≡ filter (ties lt x) (map f ns)
      by x (inl there) m = as_named x there.0 there.1
      by x (inr none) (inl there) = as_named x there.0 there.1
      by x (inr none) (inr also) = also ∙ sym none

-- two consequences of one fact
pub both : {P Q R : Type 0} → (P → Q) → (P → R) → P → Q × R
both f g p = (f p, g p)

-- the values at all indices are the list, and in another order they are its values in another order
pub numbered_all : {X : Type 0} (xs : List X) (n : ℕ) (d : X) → n ≡ length xs → map (λ r. get_or xs r d) (range_with_len 0 n) ≡ xs
numbered_all xs n d e = sym (fill_by_all (λ r. get_or xs r d) xs n d (sym e) (λ k lt. refl))

pub shuffled : {X : Type 0} (xs ys : List X) (n : ℕ) (d : X) (ns : List ℕ) → n ≡ length xs → IsPermutation (range_with_len 0 n) ns → ys ≡ map (λ r. get_or xs r d) ns → IsPermutation xs ys
shuffled xs ys n d ns e p is =
    let moved : IsPermutation (map (λ r. get_or xs r d) (range_with_len 0 n)) (map (λ r. get_or xs r d) ns) = IsPermutation-map _ _ _ p in
    rw is (subst (λ l. IsPermutation l (map (λ r. get_or xs r d) ns)) (numbered_all xs n d e) moved)
