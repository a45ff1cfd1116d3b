-- Swaps at one distance one after another: one more, and where the cells come.
use Rattle.std.proofs.Common.{◌≡◌, ◌≢◌, ℕ, zero, suc, ◌+◌, ◌-◌, ◌*◌, ◌%◌, ◌<◌, ◌≤◌, List, length, refl, sym, ◌∙◌, ap, arith, add-one, ⊎_elim, slice_get, swap, mod-eq_of_lt}
use Rattle.grid_base.proofs.Common.{length-swap, cases_eq, cases_lt, add-mod_right, add-mul-mod_self_right, swapped_forward, swapped_back}
use Rattle.grid_base.proofs.TableLemmas.{same_cells}
use Rattle.grid_base.proofs.SwapLemmas.{get-swap_first, get-swap_second, get-swap_other}

-- each of the n cells from x + s on has come s places forward, the first of them first
pub record MovedForward {T : Type 0} (x s n : ℕ) (old new : List T) : Type 0 where
  pub length_stays : length new ≡ length old
  pub placed : (y : ℕ) → x ≤ y → y < x + n → slice_get new y ≡ slice_get old (y + s)
  pub before : (y : ℕ) → y < x → slice_get new y ≡ slice_get old y
  pub behind : (y : ℕ) → x + n + s ≤ y → slice_get new y ≡ slice_get old y

forward_more : {T : Type 0} (x s n : ℕ) (old now : List T) → 0 < s → x + n + s < length old → MovedForward x s n old now → MovedForward x s (suc n) old (swap now (x + n) (x + n + s))
forward_more x s n old now some within h =
    let p : x + n < length now = omega (arith, h.length_stays) in
    let q : x + n + s < length now = omega (arith, h.length_stays) in
    record {
      length_stays = length-swap now _ _ ∙ h.length_stays;
      placed = λ y lo hi.
          ⊎_elim (λ e.
          ap (slice_get (swap now (x + n) (x + n + s))) e
          ∙ (get-swap_first now _ _ p q ∙ (h.behind (x + n + s) (omega arith) ∙ sym (ap (λ v. slice_get old (v + s)) e))))
          (λ ne. get-swap_other now _ _ y p q ne (λ e. omega arith) ∙ h.placed y lo (omega arith)) (cases_eq y (x + n));
      before = λ y lt. get-swap_other now _ _ y p q (λ e. omega arith) (λ e. omega arith) ∙ h.before y lt;
      behind = λ y ge. get-swap_other now _ _ y p q (λ e. omega arith) (λ e. omega arith) ∙ h.behind y (omega arith);
    }

-- each of the n cells from x on has come s places back, the last of them first; what was after them came before them
pub record MovedBack {T : Type 0} (x s n : ℕ) (old new : List T) : Type 0 where
  pub length_stays : length new ≡ length old
  pub placed : (y : ℕ) → x ≤ y → y < x + n → slice_get new (y + s) ≡ slice_get old y
  pub before : (y : ℕ) → y < x → slice_get new y ≡ slice_get old y
  pub behind : (y : ℕ) → x + n + s ≤ y → slice_get new y ≡ slice_get old y
  pub gap : (y : ℕ) → x ≤ y → y < x + s → (v : ℕ) × (x + n ≤ v) × (v < x + n + s) × (slice_get new y ≡ slice_get old v)

back_more : {T : Type 0} (x s n : ℕ) (old now : List T) → 0 < s → x + s < length old → MovedBack (x + 1) s n old now → MovedBack x s (n + 1) old (swap now x (x + s))
back_more x s n old now some within h =
    let p : x < length now = omega (arith, h.length_stays) in
    let q : x + s < length now = omega (arith, h.length_stays) in
    record {
      length_stays = length-swap now _ _ ∙ h.length_stays;
      placed = λ y lo hi.
          ⊎_elim (λ e.
          ap (λ v. slice_get (swap now x (x + s)) (v + s)) e
          ∙ (get-swap_second now _ _ p q ∙ (h.before x (omega arith) ∙ sym (ap (slice_get old) e))))
          (λ ne. get-swap_other now _ _ (y + s) p q (λ e. omega arith) (λ e. ne (omega arith)) ∙ h.placed y (omega arith) (omega arith)) (cases_eq y x);
      before = λ y lt. get-swap_other now _ _ y p q (λ e. omega arith) (λ e. omega arith) ∙ h.before y (omega arith);
      behind = λ y ge. get-swap_other now _ _ y p q (λ e. omega arith) (λ e. omega arith) ∙ h.behind y (omega arith);
      gap = λ y lo hi.
          ⊎_elim (λ e.
          let v = h.gap (x + s) (omega arith) (omega arith) in
          (v.0, omega (arith, v.1), omega (arith, v.2), ap (slice_get (swap now x (x + s))) e ∙ (get-swap_first now _ _ p q ∙ v.3)))
          (λ ne.
          let v = h.gap y (omega arith) (omega arith) in
          (v.0, omega (arith, v.1), omega (arith, v.2), get-swap_other now _ _ y p q ne (λ e. omega arith) ∙ v.3)) (cases_eq y x);
    }

pub forward_start : {T : Type 0} (x s : ℕ) (xs : List T) → xs ≡ swapped_forward x s 0 xs
unfolding swapped_forward
forward_start x s xs = refl

-- one swap more
pub forward_swap : {T : Type 0} (x s n : ℕ) (old now new : List T) → now ≡ swapped_forward x s n old → new ≡ swap now (x + n) (x + n + s) → new ≡ swapped_forward x s (n + 1) old
unfolding swapped_forward
forward_swap x s n old now new e f =
    f ∙ (ap (λ ys. swap ys (x + n) (x + n + s)) e ∙ sym (ap (λ k. swapped_forward x s k old) (add-one n)))

-- n swaps more
pub forward_after : {T : Type 0} (x s m n t : ℕ) (old now new : List T) → t ≡ m + n → now ≡ swapped_forward x s m old → new ≡ swapped_forward (x + m) s n now → new ≡ swapped_forward x s t old
unfolding swapped_forward
forward_after x s m zero t old now new all e f =
    let same : m ≡ t = omega arith in
    f ∙ (e ∙ ap (λ k. swapped_forward x s k old) same)
forward_after x s m (suc n) t old now new all e f =
    let last : x + m + n ≡ x + (m + n) = omega arith in
    let more : suc (m + n) ≡ t = omega arith in
    f
    ∙ (ap (λ k. swap (swapped_forward (x + m) s n now) k (k + s)) last
    ∙ (ap (λ ys. swap ys (x + (m + n)) (x + (m + n) + s)) (forward_after x s m n (m + n) old now _ refl e refl)
    ∙ ap (λ k. swapped_forward x s k old) more))

-- none is left
pub back_end : {T : Type 0} (x s n : ℕ) (xs : List T) → n ≡ 0 → swapped_back x s n xs ≡ xs
unfolding swapped_back
back_end x s n xs e = ap (λ k. swapped_back x s k xs) e

-- one swap less is left
pub back_swap : {T : Type 0} (x s n m : ℕ) (now new : List T) → m ≡ n + 1 → new ≡ swap now (x + n) (x + n + s) → swapped_back x s n new ≡ swapped_back x s m now
unfolding swapped_back
back_swap x s n m now new e f = ap (swapped_back x s n) f ∙ sym (ap (λ k. swapped_back x s k now) (e ∙ add-one n))

-- n cells come forward
forward_moves : {T : Type 0} (x s n : ℕ) (xs : List T) → 0 < s → x + n + s ≤ length xs → MovedForward x s n xs (swapped_forward x s n xs)
unfolding swapped_forward
forward_moves x s zero xs some within =
    record { length_stays = refl; placed = λ y a b. absurd (omega arith); before = λ y a. refl; behind = λ y a. refl }
forward_moves x s (suc n) xs some within =
    forward_more x s n xs (swapped_forward x s n xs) some (omega arith) (forward_moves x s n xs some (omega arith))

-- where the first s cells come, cyclically
forward_gap : {T : Type 0} (x s n z : ℕ) (xs : List T) → 0 < s → x + n + s ≤ length xs → n ≤ z → z < n + s → slice_get (swapped_forward x s n xs) (x + z) ≡ slice_get xs (x + z % s)
unfolding swapped_forward
forward_gap x s zero z xs some within lo hi = ap (λ k. slice_get xs (x + k)) (sym (mod-eq_of_lt (omega arith)))
forward_gap x s (suc n) z xs some within lo hi =
    let now = swapped_forward x s n xs in
    let len : length now ≡ length xs = (forward_moves x s n xs some (omega arith)).length_stays in
    let p : x + n < length now = omega arith in
    let q : x + n + s < length now = omega arith in
    ⊎_elim (λ e.
    let here : x + z ≡ x + n + s = omega arith in
    let round : n % s ≡ z % s = sym (add-mod_right n s) ∙ ap (λ k. k % s) (sym e) in
    ap (slice_get (swap now (x + n) (x + n + s))) here
    ∙ (get-swap_second now _ _ p q ∙ (forward_gap x s n n xs some (omega arith) (omega arith) (omega arith) ∙ ap (λ k. slice_get xs (x + k)) round)))
    (λ ne. get-swap_other now _ _ (x + z) p q (λ e. omega arith) (λ e. ne (omega arith)) ∙ forward_gap x s n z xs some (omega arith) (omega arith) (omega arith)) (cases_eq z (n + s))

-- the first k cells of each of three blocks have come forward by s, past those of the block before the three
pub record ThreeMoved {T : Type 0} (x s k : ℕ) (old new : List T) : Type 0 where
  pub length_stays : length new ≡ length old
  pub first : (y : ℕ) → x ≤ y → y < x + k → slice_get new y ≡ slice_get old (y + s)
  pub second : (y : ℕ) → x + s ≤ y → y < x + s + k → slice_get new y ≡ slice_get old (y + s)
  pub third : (y : ℕ) → x + s + s ≤ y → y < x + s + s + k → slice_get new y ≡ slice_get old (y + s)
  pub last : (y : ℕ) → x ≤ y → y < x + k → slice_get new (y + s + s + s) ≡ slice_get old y
  pub others : (y : ℕ) → (x ≤ y → x + k ≤ y) → (x + s ≤ y → x + s + k ≤ y) → (x + s + s ≤ y → x + s + s + k ≤ y) → (x + s + s + s ≤ y → x + s + s + s + k ≤ y) → slice_get new y ≡ slice_get old y

pub three_none : {T : Type 0} (x s : ℕ) (xs : List T) → ThreeMoved x s 0 xs xs
three_none x s xs = grind arith

three_swaps : {T : Type 0} (x s k a b d e : ℕ) (old now : List T) → a ≡ x + k → b ≡ a + s → d ≡ b + s → e ≡ d + s → k < s → e < length old → ThreeMoved x s k old now → ThreeMoved x s (k + 1) old (swap (swap (swap now a b) b d) d e)
three_swaps x s k a b d e old now ea eb ed ee lt within h =
    let one = swap now a b in
    let two = swap one b d in
    let new = swap two d e in
    let l : length now ≡ length old = h.length_stays in
    let m : length one ≡ length old = length-swap now a b ∙ l in
    let n : length two ≡ length old = length-swap one b d ∙ m in
    let top : a + s + s + s ≡ e = omega arith in
    let at_a : slice_get new a ≡ slice_get old (a + s) = get-swap_other two d e a (omega arith) (omega arith) (λ q. omega arith) (λ q. omega arith) ∙ (get-swap_other one b d a (omega arith) (omega arith) (λ q. omega arith) (λ q. omega arith) ∙ (get-swap_first now a b (omega arith) (omega arith) ∙ (h.others b (λ w. omega arith) (λ w. omega arith) (λ w. omega arith) (λ w. omega arith) ∙ ap (slice_get old) eb))) in
    let at_b : slice_get new b ≡ slice_get old (b + s) = get-swap_other two d e b (omega arith) (omega arith) (λ q. omega arith) (λ q. omega arith) ∙ (get-swap_first one b d (omega arith) (omega arith) ∙ (get-swap_other now a b d (omega arith) (omega arith) (λ q. omega arith) (λ q. omega arith) ∙ (h.others d (λ w. omega arith) (λ w. omega arith) (λ w. omega arith) (λ w. omega arith) ∙ ap (slice_get old) ed))) in
    let at_d : slice_get new d ≡ slice_get old (d + s) = get-swap_first two d e (omega arith) (omega arith) ∙ (get-swap_other one b d e (omega arith) (omega arith) (λ q. omega arith) (λ q. omega arith) ∙ (get-swap_other now a b e (omega arith) (omega arith) (λ q. omega arith) (λ q. omega arith) ∙ (h.others e (λ w. omega arith) (λ w. omega arith) (λ w. omega arith) (λ w. omega arith) ∙ ap (slice_get old) ee))) in
    let at_e : slice_get new e ≡ slice_get old a = get-swap_second two d e (omega arith) (omega arith) ∙ (get-swap_second one b d (omega arith) (omega arith) ∙ (get-swap_second now a b (omega arith) (omega arith) ∙ h.others a (λ w. omega arith) (λ w. omega arith) (λ w. omega arith) (λ w. omega arith))) in
    let stays = λ (y : ℕ) (na : y ≢ a) (nb : y ≢ b) (nd : y ≢ d) (ne : y ≢ e). get-swap_other two d e y (omega arith) (omega arith) nd ne ∙ (get-swap_other one b d y (omega arith) (omega arith) nb nd ∙ get-swap_other now a b y (omega arith) (omega arith) na nb) in
    record {
      length_stays = length-swap two d e ∙ n;
      first = λ y lo hi. ⊎_elim (λ q. rw q at_a) (λ ne. stays y ne (λ q. omega arith) (λ q. omega arith) (λ q. omega arith) ∙ h.first y lo (omega arith)) (cases_eq y a);
      second = λ y lo hi. ⊎_elim (λ q. rw q at_b) (λ ne. stays y (λ q. omega arith) ne (λ q. omega arith) (λ q. omega arith) ∙ h.second y lo (omega arith)) (cases_eq y b);
      third = λ y lo hi. ⊎_elim (λ q. rw q at_d) (λ ne. stays y (λ q. omega arith) (λ q. omega arith) ne (λ q. omega arith) ∙ h.third y lo (omega arith)) (cases_eq y d);
      last = λ y lo hi. ⊎_elim (λ q. rw q (ap (slice_get new) top ∙ at_e)) (λ ne. stays (y + s + s + s) (λ q. omega arith) (λ q. omega arith) (λ q. omega arith) (λ q. ne (omega arith)) ∙ h.last y lo (omega arith)) (cases_eq y a);
      others = λ y p q u v. stays y (λ f. omega arith) (λ f. omega arith) (λ f. omega arith) (λ f. omega arith) ∙ h.others y (λ f. omega arith) (λ f. omega arith) (λ f. omega arith) (λ f. omega arith);
    }

-- three swaps more
pub three_more : {T : Type 0} (x s k a b d e : ℕ) (old now one two new : List T) → a ≡ x + k → b ≡ a + s → d ≡ b + s → e ≡ d + s → k < s → e < length old → ThreeMoved x s k old now → one ≡ swap now a b → two ≡ swap one b d → new ≡ swap two d e → ThreeMoved x s (k + 1) old new
three_more x s k a b d e old now one two new ea eb ed ee lt within h f g i =
    rw (i ∙ ap (λ xs. swap xs d e) (g ∙ ap (λ xs. swap xs b d) f)) (three_swaps x s k a b d e old now ea eb ed ee lt within h)

-- all of them
pub three_all : {T : Type 0} (x s k : ℕ) (old new : List T) → ThreeMoved x s k old new → k ≡ s → 0 < s → x + 4 * s ≤ length old → new ≡ swapped_forward x s (3 * s) old
three_all x s k old new h all some within =
    let moved = forward_moves x s (3 * s) old some (omega arith) in
    same_cells new (swapped_forward x s (3 * s) old) (h.length_stays ∙ sym moved.length_stays) (λ y lt.
    ⊎_elim (λ p. h.others y (λ w. omega arith) (λ w. omega arith) (λ w. omega arith) (λ w. omega arith) ∙ sym (moved.before y p))
    (λ p. ⊎_elim (λ q. h.first y p (omega arith) ∙ sym (moved.placed y p (omega arith)))
    (λ q. ⊎_elim (λ r. h.second y q (omega arith) ∙ sym (moved.placed y p (omega arith)))
    (λ r. ⊎_elim (λ u. h.third y r (omega arith) ∙ sym (moved.placed y p (omega arith)))
    (λ u. ⊎_elim (λ v.
    let j = y - (x + 3 * s) in
    let here : x + j + s + s + s ≡ y = omega arith in
    let place : x + (j + 3 * s) ≡ y = omega arith in
    let round : (j + 3 * s) % s ≡ j = add-mul-mod_self_right j 3 s ∙ mod-eq_of_lt (omega arith) in
    ap (slice_get new) (sym here)
    ∙ (h.last (x + j) (omega arith) (omega arith)
    ∙ sym (ap (slice_get (swapped_forward x s (3 * s) old)) (sym place)
    ∙ (forward_gap x s (3 * s) (j + 3 * s) old some (omega arith) (omega arith) (omega arith) ∙ ap (λ i. slice_get old (x + i)) round))))
    (λ v. h.others y (λ w. omega arith) (λ w. omega arith) (λ w. omega arith) (λ w. omega arith) ∙ sym (moved.behind y (omega arith)))
    (cases_lt y (x + 4 * s))) (cases_lt y (x + s + s + s))) (cases_lt y (x + s + s))) (cases_lt y (x + s))) (cases_lt y x))

-- m cells have come back, and n more come
back_moves : {T : Type 0} (x s m n z t : ℕ) (old now : List T) → 0 < s → z + s ≤ length old → z ≡ x + n → t ≡ m + n → MovedBack z s m old now → MovedBack x s t old (swapped_back x s n now)
unfolding swapped_back
back_moves x s m zero z t old now some within ez et h =
    let here : z ≡ x = omega arith in
    let all : m ≡ t = omega arith in
    rw all at (rw here at h)
back_moves x s m (suc n) z t old now some within ez et h =
    let next : z ≡ x + n + 1 = omega arith in
    back_moves x s (m + 1) n (x + n) t old (swap now (x + n) (x + n + s)) some (omega arith) refl (omega arith)
    (back_more (x + n) s m old now some (omega arith) (rw next at h))

pub moved_forward : {T : Type 0} (x s n : ℕ) (old new : List T) → 0 < s → x + n + s ≤ length old → new ≡ swapped_forward x s n old → MovedForward x s n old new
moved_forward x s n old new some within e = rw e (forward_moves x s n old some within)

pub moved_back : {T : Type 0} (x s n : ℕ) (old new : List T) → 0 < s → x + n + s ≤ length old → new ≡ swapped_back x s n old → MovedBack x s n old new
moved_back x s n old new some within e =
    let none : MovedBack (x + n) s 0 old old =
    record {
      length_stays = refl;
      placed = λ y a b. absurd (omega arith);
      before = λ y a. refl;
      behind = λ y a. refl;
      gap = λ y a b. (y, omega arith, omega arith, refl);
    } in
    rw e (back_moves x s 0 n (x + n) n old old some (omega arith) refl (omega arith) none)
