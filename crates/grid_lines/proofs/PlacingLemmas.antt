-- Items that are put into a wanted order by swaps, where each item is named by its index.
use Rattle.std.proofs.Common.{◌≡◌, ◌≢◌, ℕ, ◌+◌, ◌<◌, ◌≤◌, ◌⊎◌, inl, inr, List, length, get_or, map, refl, sym, ap, ◌∙◌, arith, ext_get_or, swap, IsPermutation}
use Rattle.grid_base.proofs.Common.{eqb_tells, get_or-map, length-map, Swapped, swapped_from_swap, length-swap, length-range_with_len, get_or-range_with_len, IsPermutation-keeps, range_with_len}

-- the indices below n, each once
pub record IsNumbering (n : ℕ) (ns : List ℕ) : Type 0 where
  pub long : length ns ≡ n
  pub below : (k : ℕ) → k < n → get_or ns k 0 < n
  pub apart : (j k : ℕ) → j < n → k < n → get_or ns j 0 ≡ get_or ns k 0 → j ≡ k

module _ {X : Type 0} {f g : ℕ → X} {a b : ℕ} (s : Swapped f g a b) where
  -- which item is at place k now
  moved : (k : ℕ) → ((k ≡ a) × (g k ≡ f b)) ⊎ (((k ≡ b) × (g k ≡ f a)) ⊎ ((k ≢ a) × (k ≢ b) × (g k ≡ f k)))
  moved k = elim (eqb_tells k a) [
    | inl e ↦ inl (e.1, ap g e.1 ∙ s.0)
    | inr n ↦ elim (eqb_tells k b) [
      | inl e ↦ inr (inl (e.1, ap g e.1 ∙ s.1))
      | inr m ↦ inr (inr (n.1, m.1, s.2 k n.1 m.1))
    ]
  ]

swapped_apart : (n a b : ℕ) (f g : ℕ → ℕ) → a < n → b < n → Swapped f g a b → ((j k : ℕ) → j < n → k < n → f j ≡ f k → j ≡ k) → (j k : ℕ) → j < n → k < n → g j ≡ g k → j ≡ k
swapped_apart n a b f g p q s h j k u v e = elim (moved s j) [
  | inl x ↦ elim (moved s k) [
    | inl y ↦ x.0 ∙ sym y.0
    | inr (inl y) ↦ let w = h b a q p (sym x.1 ∙ e ∙ y.1) in omega (arith, w, x.0, y.0)
    | inr (inr y) ↦ absurd (y.1 (sym (h b k q v (sym x.1 ∙ e ∙ y.2))))
  ]
  | inr (inl x) ↦ elim (moved s k) [
    | inl y ↦ let w = h a b p q (sym x.1 ∙ e ∙ y.1) in omega (arith, w, x.0, y.0)
    | inr (inl y) ↦ x.0 ∙ sym y.0
    | inr (inr y) ↦ absurd (y.0 (sym (h a k p v (sym x.1 ∙ e ∙ y.2))))
  ]
  | inr (inr x) ↦ elim (moved s k) [
    | inl y ↦ absurd (x.1 (h j b u q (sym x.2 ∙ e ∙ y.1)))
    | inr (inl y) ↦ absurd (x.0 (h j a u p (sym x.2 ∙ e ∙ y.1)))
    | inr (inr y) ↦ h j k u v (sym x.2 ∙ e ∙ y.2)
  ]
]

swapped_below : (n a b : ℕ) (f g : ℕ → ℕ) → a < n → b < n → Swapped f g a b → ((k : ℕ) → k < n → f k < n) → (k : ℕ) → k < n → g k < n
swapped_below n a b f g p q s h k v = elim (moved s k) [
  | inl x ↦ omega (arith, x.1, h b q)
  | inr (inl x) ↦ omega (arith, x.1, h a p)
  | inr (inr x) ↦ omega (arith, x.2, h k v)
]

numbering_start : (n : ℕ) → IsNumbering n (range_with_len 0 n)
numbering_start n = record {
  long = length-range_with_len 0 n;
  below = λ k lt. omega (arith, get_or-range_with_len 0 n k 0 lt);
  apart = λ j k lt lt' e. omega (arith, e, get_or-range_with_len 0 n j 0 lt, get_or-range_with_len 0 n k 0 lt');
}

numbering_swap : (n : ℕ) (ns : List ℕ) (i j : ℕ) → i < length ns → j < length ns → IsNumbering n ns → IsNumbering n (swap ns i j)
numbering_swap n ns i j p q h =
    let s = swapped_from_swap ns (swap ns i j) i j 0 p q refl in
    let long : length ns ≡ n = h.long in
    record {
      long = length-swap ns i j ∙ h.long;
      below = swapped_below n i j _ _ (omega (arith, long)) (omega (arith, long)) s h.below;
      apart = swapped_apart n i j _ _ (omega (arith, long)) (omega (arith, long)) s h.apart;
    }

pub numbering : (n : ℕ) (ns : List ℕ) → IsPermutation (range_with_len 0 n) ns → IsNumbering n ns
numbering n ns = IsPermutation-keeps (range_with_len 0 n) (IsNumbering n) (numbering_start n) (numbering_swap n) ns

-- h names what is at each place, and p where each is: so they do after both were swapped
inverse_more : (n i q x y : ℕ) (h h' p p' : ℕ → ℕ) → Swapped h h' i q → Swapped p p' x y → h i ≡ y → h q ≡ x → p x ≡ q → p y ≡ i → i < n → q < n → ((k : ℕ) → k < n → (h k < n) × (p (h k) ≡ k)) → (k : ℕ) → k < n → (h' k < n) × (p' (h' k) ≡ k)
inverse_more n i q x y h h' p p' s t hi hq px py i_low q_low inv k lt = elim (moved s k) [
  | inl e ↦ (omega (arith, e.1, (inv q q_low).0), ap p' (e.1 ∙ hq) ∙ (t.0 ∙ (py ∙ sym e.0)))
  | inr (inl e) ↦ (omega (arith, e.1, (inv i i_low).0), ap p' (e.1 ∙ hi) ∙ (t.1 ∙ (px ∙ sym e.0)))
  | inr (inr e) ↦ (
    omega (arith, e.2, (inv k lt).0),
    ap p' e.2 ∙ elim (moved t (h k)) [
      | inl m ↦ absurd (e.1 (sym (inv k lt).1 ∙ (ap p m.0 ∙ px)))
      | inr (inl m) ↦ absurd (e.0 (sym (inv k lt).1 ∙ (ap p m.0 ∙ py)))
      | inr (inr m) ↦ m.2 ∙ (inv k lt).1
    ],
  )
]

-- place i has what was wanted, and no earlier place changed
placed_more : (i q x : ℕ) (h h' w : ℕ → ℕ) → Swapped h h' i q → h q ≡ x → x ≡ w i → ((k : ℕ) → k < i → w k ≡ w i → ⊥) → ((k : ℕ) → k < i → h k ≡ w k) → (k : ℕ) → k < i + 1 → h' k ≡ w k
placed_more i q x h h' w s hq is apart so_far k lt = elim (moved s k) [
  | inl e ↦ e.1 ∙ (hq ∙ (is ∙ ap w (sym e.0)))
  | inr (inl e) ↦ elim (eqb_tells k i) [
    | inl m ↦ ap h' m.1 ∙ (s.0 ∙ (hq ∙ (is ∙ ap w (sym m.1))))
    | inr m ↦ absurd (apart k (omega (arith, m.1)) (sym (so_far k (omega (arith, m.1))) ∙ (ap h e.0 ∙ (hq ∙ is))))
  ]
  | inr (inr e) ↦ e.2 ∙ so_far k (omega (arith, e.0))
]

held_more : {X : Type 0} (n i q : ℕ) (h h' : ℕ → ℕ) (now new old : ℕ → X) → Swapped now new i q → Swapped h h' i q → i < n → q < n → ((k : ℕ) → k < n → now k ≡ old (h k)) → (k : ℕ) → k < n → new k ≡ old (h' k)
held_more n i q h h' now new old s t i_low q_low held k lt = elim (moved s k) [
  | inl e ↦ e.1 ∙ (held q q_low ∙ ap old (sym (ap h' e.0 ∙ t.0)))
  | inr (inl e) ↦ e.1 ∙ (held i i_low ∙ ap old (sym (ap h' e.0 ∙ t.1)))
  | inr (inr e) ↦ e.2 ∙ (held k lt ∙ ap old (sym (t.2 k e.0 e.1)))
]

module _ {X : Type 0} (old : List X) (d : X) (wanted : List ℕ) where
  -- place k holds the item of number holds k, and the item of number r is at places r; before i they are as wanted
  pub record Placing (i : ℕ) (now : List X) (holds places : List ℕ) : Type 0 where
    pub long : length now ≡ length old
    pub holds_long : length holds ≡ length old
    pub places_long : length places ≡ length old
    pub held : (k : ℕ) → k < length old → get_or now k d ≡ get_or old (get_or holds k 0) d
    pub stands : (r : ℕ) → r < length old → (get_or places r 0 < length old) × (get_or holds (get_or places r 0) 0 ≡ r)
    pub knows : (k : ℕ) → k < length old → (get_or holds k 0 < length old) × (get_or places (get_or holds k 0) 0 ≡ k)
    pub placed : (k : ℕ) → k < i → get_or holds k 0 ≡ get_or wanted k 0

  pub placing_start : (holds places : List ℕ) → holds ≡ range_with_len 0 (length old) → places ≡ range_with_len 0 (length old) → Placing 0 old holds places
  placing_start holds places e e' =
      let n = length old in
      let here : (k : ℕ) → k < n → get_or holds k 0 ≡ k = λ k lt. let r = get_or-range_with_len 0 n k 0 lt in ap (λ l. get_or l k 0) e ∙ omega (arith, r) in
      let there : (k : ℕ) → k < n → get_or places k 0 ≡ k = λ k lt. let r = get_or-range_with_len 0 n k 0 lt in ap (λ l. get_or l k 0) e' ∙ omega (arith, r) in
      record {
        long = refl;
        holds_long = ap length e ∙ length-range_with_len 0 n;
        places_long = ap length e' ∙ length-range_with_len 0 n;
        held = λ k lt. ap (λ m. get_or old m d) (sym (here k lt));
        stands = λ r lt. (omega (arith, there r lt), ap (λ m. get_or holds m 0) (there r lt) ∙ here r lt);
        knows = λ k lt. (omega (arith, here k lt), ap (λ m. get_or places m 0) (here k lt) ∙ there k lt);
        placed = λ k lt. absurd (omega arith);
      }

  pub placed_all : (i : ℕ) (now : List X) (holds places : List ℕ) → IsNumbering (length old) wanted → Placing i now holds places → length old ≤ i → now ≡ map (λ r. get_or old r d) wanted
  placed_all i now holds places w s le =
      let as_long : length (map (λ r. get_or old r d) wanted) ≡ length wanted = length-map wanted (λ r. get_or old r d) in
      ext_get_or d _ _ (s.long ∙ (sym w.long ∙ sym as_long)) (λ k lt.
      let lt' : k < length old = omega (arith, s.long) in
      s.held k lt'
      ∙ (ap (λ m. get_or old m d) (s.placed k (omega arith))
      ∙ sym (get_or-map (λ r. get_or old r d) wanted k 0 d (omega (arith, w.long)))))

  -- the item that is wanted at place i goes there, and the one that was there takes its place
  pub placing_more : (i : ℕ) (now new : List X) (holds places : List ℕ) (x q y : ℕ) → IsNumbering (length old) wanted → i < length old → Placing i now holds places → x ≡ get_or wanted i 0 → q ≡ get_or places x 0 → y ≡ get_or holds i 0 → new ≡ swap now i q → Placing (i + 1) new (swap holds i q) (swap places x y)
  placing_more i now new holds places x q y w lt s x_is q_is y_is swapped =
      let n = length old in
      let x_low : x < n = omega (arith, x_is, w.below i lt) in
      let q_low : q < n = omega (arith, q_is, (s.stands x x_low).0) in
      let y_low : y < n = omega (arith, y_is, (s.knows i lt).0) in
      let at_q : get_or holds q 0 ≡ x = ap (λ k. get_or holds k 0) q_is ∙ (s.stands x x_low).1 in
      let at_y : get_or places y 0 ≡ i = ap (λ k. get_or places k 0) y_is ∙ (s.knows i lt).1 in
      let items = swapped_from_swap now new i q d (omega (arith, s.long)) (omega (arith, s.long)) swapped in
      let names = swapped_from_swap holds (swap holds i q) i q 0 (omega (arith, s.holds_long)) (omega (arith, s.holds_long)) refl in
      let spots = swapped_from_swap places (swap places x y) x y 0 (omega (arith, s.places_long)) (omega (arith, s.places_long)) refl in
      record {
        long = ap length swapped ∙ (length-swap now i q ∙ s.long);
        holds_long = length-swap holds i q ∙ s.holds_long;
        places_long = length-swap places x y ∙ s.places_long;
        held = held_more n i q _ _ _ _ (λ r. get_or old r d) items names lt q_low s.held;
        stands = inverse_more n x y i q _ _ _ _ spots names (sym q_is) at_y (sym y_is) at_q x_low y_low s.stands;
        knows = inverse_more n i q x y _ _ _ _ names spots (sym y_is) at_q (sym q_is) at_y lt q_low s.knows;
        placed = placed_more i q x _ _ _ names at_q x_is (λ k low e. let same = w.apart k i (omega (arith, low, lt)) lt e in absurd (omega (arith, same, low))) s.placed;
      }

  -- the three indices of a step are below the lengths
  module _ (i : ℕ) (now : List X) (holds places : List ℕ) (w : IsNumbering (length old) wanted) (s : Placing i now holds places) (lt : i < length wanted) where
    pub place_fits : i < length old
    place_fits = omega (arith, w.long)

    pub row_fits : get_or wanted i 0 < length old
    row_fits = w.below i place_fits

    pub held_fits : get_or holds i 0 < length old
    held_fits = (s.knows i place_fits).0

    pub standing_fits : get_or places (get_or wanted i 0) 0 < length old
    standing_fits = (s.stands (get_or wanted i 0) row_fits).0
