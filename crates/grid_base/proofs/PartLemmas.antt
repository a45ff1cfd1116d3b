-- Parts of a list that are reversed, and blocks that change places: at once, or swap by swap.
use Rattle.std.proofs.Common.{◌≡◌, ℕ, ◌+◌, ◌-◌, ◌/◌, ◌<◌, ◌≤◌, List, [], ◌∷◌, ◌++◌, length, reverse, Some, sym, ◌∙◌, ap, arith, length-append, ⊎_elim, slice_get, swap}
use Rattle.grid_base.proofs.Common.{length-reverse, get_or-reverse, length-swap, slice_get-get_or, cases_lt, PartReversed, BlocksSwapped, BlocksExchanged}
use Rattle.grid_base.proofs.StorageLemmas.{get_append_left, get_append_right}
use Rattle.grid_base.proofs.SwapLemmas.{get-swap_first, get-swap_second, get-swap_other}

pub get-reverse : {X : Type 0} (xs : List X) (k : ℕ) → k < length xs → slice_get (reverse xs) k ≡ slice_get xs (length xs - 1 - k)
get-reverse [] k lt = absurd (omega arith)
get-reverse (y ∷ ys) k lt =
    slice_get-get_or (reverse (y ∷ ys)) k y (omega (arith, length-reverse (y ∷ ys)))
    ∙ (ap Some (get_or-reverse (y ∷ ys) k y lt) ∙ sym (slice_get-get_or (y ∷ ys) (length (y ∷ ys) - 1 - k) y (omega arith)))

-- the n cells from a on, of which the outer i on each side are reversed
pub record Turning {T : Type 0} (a n i : ℕ) (old now : List T) : Type 0 where
  pub length_stays : length now ≡ length old
  pub front : (j : ℕ) → j < i → slice_get now (a + j) ≡ slice_get old (a + (n - 1 - j))
  pub back : (j : ℕ) → j < i → slice_get now (a + (n - 1 - j)) ≡ slice_get old (a + j)
  pub middle : (j : ℕ) → i ≤ j → j + i < n → slice_get now (a + j) ≡ slice_get old (a + j)
  pub others : (k : ℕ) → (a ≤ k → a + n ≤ k) → slice_get now k ≡ slice_get old k

pub turning_more : {T : Type 0} (a n i : ℕ) (old now new : List T) → a + n ≤ length old → i < n / 2 → Turning a n i old now → new ≡ swap now (a + i) (a + (n - 1 - i)) → Turning a n (i + 1) old new
turning_more a n i old now new fits half h e =
    let p : a + i < length now = omega (arith, h.length_stays) in
    let q : a + (n - 1 - i) < length now = omega (arith, h.length_stays) in
    let one = get-swap_first now _ _ p q ∙ h.middle (n - 1 - i) (omega arith) (omega arith) in
    let two = get-swap_second now _ _ p q ∙ h.middle i (omega arith) (omega arith) in
    rw e
    (record {
      length_stays = length-swap now _ _ ∙ h.length_stays;
      front = λ j lj. grind (arith, one, h.front j, get-swap_other now _ _ (a + j) p q);
      back = λ j lj. grind (arith, two, h.back j, get-swap_other now _ _ (a + (n - 1 - j)) p q);
      middle = λ j lo hi. grind (arith, h.middle j, get-swap_other now _ _ (a + j) p q);
      others = λ k out. grind (arith, h.others k, get-swap_other now _ _ k p q);
    })

pub turning_none : {T : Type 0} (a n : ℕ) (xs : List T) → Turning a n 0 xs xs
turning_none a n xs = grind arith

-- all of them
pub turning_all : {T : Type 0} (a n i : ℕ) (old now : List T) → i ≡ n / 2 → Turning a n i old now → PartReversed a n old now
turning_all a n i old now all h = grind (arith, h)

pub blocks_none : {T : Type 0} (i j : ℕ) (xs : List T) → BlocksSwapped i j 0 xs xs
blocks_none i j xs = grind arith

-- one pair more
pub blocks_more : {T : Type 0} (i j n : ℕ) (old now new : List T) → i + n < j → j + n < length old → BlocksSwapped i j n old now → new ≡ swap now (i + n) (j + n) → BlocksSwapped i j (n + 1) old new
blocks_more i j n old now new apart within h e =
    let p : i + n < length now = omega (arith, h.length_stays) in
    let q : j + n < length now = omega (arith, h.length_stays) in
    let one = get-swap_first now _ _ p q in
    let two = get-swap_second now _ _ p q in
    rw e
    (record {
      length_stays = length-swap now _ _ ∙ h.length_stays;
      first = λ x lt. grind (arith, one, h.others (j + n), h.first x, get-swap_other now _ _ (i + x) p q);
      second = λ x lt. grind (arith, two, h.others (i + n), h.second x, get-swap_other now _ _ (j + x) p q);
      others = λ k a b. grind (arith, h.others k, get-swap_other now _ _ k p q);
    })

-- a cell after others
behind : {T : Type 0} (i u v x y : ℕ) (ps old new : List T) → i ≡ length ps → u ≡ i + x → v ≡ i + y → slice_get new x ≡ slice_get old y → slice_get (ps ++ new) u ≡ slice_get (ps ++ old) v
behind i u v x y ps old new e a b is =
    get_append_right ps new u x (omega arith) ∙ (is ∙ sym (get_append_right ps old v y (omega arith)))

kept_behind : {T : Type 0} (i k : ℕ) (ps old new : List T) → i ≡ length ps → (i ≤ k → slice_get new (k - i) ≡ slice_get old (k - i)) → slice_get (ps ++ new) k ≡ slice_get (ps ++ old) k
kept_behind i k ps old new e h =
    ⊎_elim (λ lt. get_append_left ps new k (omega arith) ∙ sym (get_append_left ps old k (omega arith)))
    (λ ge. behind i k k (k - i) (k - i) ps old new e (omega arith) (omega arith) (h ge)) (cases_lt k i)

-- the same after other cells
pub blocks_behind : {T : Type 0} (i j d n : ℕ) (ps old new : List T) → i ≡ length ps → j ≡ i + d → BlocksSwapped 0 d n old new → BlocksSwapped i j n (ps ++ old) (ps ++ new)
blocks_behind i j d n ps old new e f h =
    record {
      length_stays = omega (arith, length-append ps old, length-append ps new, h.length_stays);
      first = λ x lt. behind i _ _ _ _ ps old new e (omega arith) (omega arith) (h.first x lt);
      second = λ x lt. behind i _ _ _ _ ps old new e (omega arith) (omega arith) (h.second x lt);
      others = λ k a b. kept_behind i k ps old new e (λ ge. h.others (k - i) (λ _. let o : i + n ≤ k = a ge in omega arith) (λ le. let o : j + n ≤ k = b (omega arith) in omega arith));
    }

pub part_behind : {T : Type 0} (a n : ℕ) (ps old new : List T) → a ≡ length ps → PartReversed 0 n old new → PartReversed a n (ps ++ old) (ps ++ new)
part_behind a n ps old new e h =
    record {
      length_stays = omega (arith, length-append ps old, length-append ps new, h.length_stays);
      moved = λ j lj. behind a _ _ _ _ ps old new e (omega arith) (omega arith) (h.moved j lj);
      others = λ k out. kept_behind a k ps old new e (λ ge. h.others (k - a) (λ _. let o : a + n ≤ k = out ge in omega arith));
    }

-- two parts that are reversed, and then both as one
pub exchanged_by_reversals : {T : Type 0} (a m n : ℕ) (old one two new : List T) → PartReversed a m old one → PartReversed (a + m) n one two → PartReversed a (m + n) two new → BlocksExchanged a m n old new
exchanged_by_reversals a m n old one two new h i j =
    record {
      length_stays = j.length_stays ∙ (i.length_stays ∙ h.length_stays);
      before = λ x lt. j.others x (λ le. absurd (omega arith)) ∙ (i.others x (λ le. absurd (omega arith)) ∙ h.others x (λ le. absurd (omega arith)));
      second = λ x lt.
          j.moved x (omega arith)
          ∙ (ap (slice_get two) (omega arith)
          ∙ (i.moved (n - 1 - x) (omega arith)
          ∙ (ap (slice_get one) (omega arith) ∙ h.others (a + (m + x)) (λ le. omega arith))));
      first = λ x lt.
          j.moved (n + x) (omega arith)
          ∙ (i.others (a + (m + n - 1 - (n + x))) (λ le. absurd (omega arith))
          ∙ (ap (slice_get one) (omega arith)
          ∙ (h.moved (m - 1 - x) (omega arith) ∙ ap (slice_get old) (omega arith))));
      behind = λ x le. j.others x (λ lo. omega arith) ∙ (i.others x (λ lo. omega arith) ∙ h.others x (λ lo. omega arith));
    }
