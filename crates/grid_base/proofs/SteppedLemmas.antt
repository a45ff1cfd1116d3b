-- Cells whose places are a step apart, and the lines that they are.
use Rattle.std.proofs.Common.{◌≡◌, ℕ, zero, suc, ◌+◌, ◌-◌, ◌*◌, ◌%◌, ◌/◌, ◌^◌, ◌<◌, ◌≤◌, Bool, true, false, Option, None, Some, Bor, List, [], ◌∷◌, ◌++◌, length, take, drop, reverse, slice_get, refl, sym, ◌∙◌, ap, arith, IsSome, length-append, length-drop, length-take-le, take-append-drop, drop_at, ⊎_elim}
use Rattle.grid_base.proofs.Common.{YieldsFirstRef, YieldsLastRef, cases_lt, length-reverse, reverse-append, mul-le, counted, line_cells}
use Rattle.std.proofs.Math.Nat.{mod-eq_of_lt, mod-add-mod, add-mod-mod, add-mul-mod_self_right, div-add-mod}
use Rattle.grid_base.proofs.PartLemmas.{get-reverse}
use Rattle.grid_base.proofs.StorageLemmas.{get-take, get-drop, get_append_left, get_append_right}
use Rattle.grid_base.proofs.TableLemmas.{same_cells, length-line, slice_get-line, IsSome_within, counted_within}
use Rattle.grid_base.specs.Stepped.{stepped, stepped_cells, AreStepped}

-- a place that differs from these steps by a multiple of 2 ^ 64
stepped_is : (place step k at q : ℕ) → place + k * step ≡ at + q * 2 ^ 64 → at < 2 ^ 64 → stepped place step k ≡ at
stepped_is place step k at q e fits =
    ap (λ n. n % 2 ^ 64) e ∙ (add-mul-mod_self_right at q (2 ^ 64) ∙ mod-eq_of_lt fits)

-- a step, and those after it
stepped_on : (place step k : ℕ) → stepped ((place + step) % 2 ^ 64) step k ≡ stepped place step (suc k)
stepped_on place step k =
    mod-add-mod (place + step) (2 ^ 64) (k * step) ∙ ap (λ n. n % 2 ^ 64) more
  where
    more : place + step + k * step ≡ place + suc k * step
    more = omega arith

module _ {T : Type 0} (place step left : ℕ) (cells : List T) (h : AreStepped place step left (length cells)) where
  each : (k : ℕ) → k < left → IsSome (slice_get cells (stepped place step k))
  each k lt = IsSome_within cells (stepped place step k) (h.within k lt)

  pub length-stepped : length (stepped_cells place step left cells) ≡ left
  length-stepped = length-line left (λ k. slice_get cells (stepped place step k)) each

  get-stepped : (k : ℕ) → k < left → slice_get (stepped_cells place step left cells) k ≡ slice_get cells (stepped place step k)
  get-stepped k lt = slice_get-line left (λ k. slice_get cells (stepped place step k)) k each lt

  pub first_within : place < 2 ^ 64 → 0 < left → place < length cells
  first_within fits some = omega (arith, h.within 0 some, stepped_is place step 0 place 0 (omega arith) fits)

-- the first of the cells, and those after it; the last, and those before it
module _ {T : Type 0} (place step left : ℕ) (cells : List T) (h : AreStepped place step left (length cells)) (x : T) (less : ℕ) (one : left ≡ suc less) where
  pub stepped_before : AreStepped place step less (length cells)
  stepped_before = record { within = λ k lt. h.within k (omega arith) }

  pub stepped_last : (n : ℕ) → n ≡ stepped place step less → slice_get cells n ≡ Some x → stepped_cells place step left cells ≡ stepped_cells place step less cells ++ x ∷ []
  stepped_last n there e =
      same_cells _ _ (omega (arith, length-stepped place step left cells h, length-append front (x ∷ []), long))
      (λ k lt.
      let lk : k < left = omega (arith, length-stepped place step left cells h) in
      get-stepped place step left cells h k lk ∙ sym (at k lk))
    where
      front : List T
      front = stepped_cells place step less cells

      long : length front ≡ less
      long = length-stepped place step less cells stepped_before

      at : (k : ℕ) → k < left → slice_get (front ++ x ∷ []) k ≡ slice_get cells (stepped place step k)
      at k lt = ⊎_elim (λ (before : k < less). get_append_left front (x ∷ []) k (omega (arith, long)) ∙ get-stepped place step less cells stepped_before k before)
          (λ (past : less ≤ k).
          let last : less ≡ k = omega arith in
          get_append_right front (x ∷ []) k 0 (omega (arith, long))
          ∙ (sym e ∙ (ap (slice_get cells) there ∙ ap (λ j. slice_get cells (stepped place step j)) last)))
          (cases_lt k less)

  module _ (next : ℕ) (e : next ≡ (place + step) % 2 ^ 64) where
    on : (k : ℕ) → stepped next step k ≡ stepped place step (suc k)
    on k = ap (λ n. stepped n step k) e ∙ stepped_on place step k

    pub stepped_after : AreStepped next step less (length cells)
    stepped_after = record { within = λ k lt. omega (arith, h.within (suc k) (omega arith), on k) }

    pub stepped_first : place < 2 ^ 64 → slice_get cells place ≡ Some x → stepped_cells place step left cells ≡ x ∷ stepped_cells next step less cells
    stepped_first fits found =
        same_cells _ _ (omega (arith, length-stepped place step left cells h, long))
        (λ k lt.
        let lk : k < left = omega (arith, length-stepped place step left cells h) in
        get-stepped place step left cells h k lk ∙ sym (at k lk))
      where
        rest : List T
        rest = stepped_cells next step less cells

        long : length rest ≡ less
        long = length-stepped next step less cells stepped_after

        at : (k : ℕ) → k < left → slice_get (x ∷ rest) k ≡ slice_get cells (stepped place step k)
        at zero lt = sym found ∙ ap (slice_get cells) (sym (stepped_is place step 0 place 0 (omega arith) fits))
        at (suc k) lt = get-stepped next step less cells stepped_after k (omega arith) ∙ ap (slice_get cells) (on k)

-- past some of the cells
module _ {T : Type 0} (place step left : ℕ) (cells : List T) (h : AreStepped place step left (length cells)) (n : ℕ) (le : n ≤ left) (past : ℕ) (e : past ≡ (place + n * step % 2 ^ 64) % 2 ^ 64) where
  past_on : (k : ℕ) → stepped past step k ≡ stepped place step (n + k)
  past_on k =
      ap (λ p. stepped p step k) (e ∙ add-mod-mod place (n * step) (2 ^ 64))
      ∙ (mod-add-mod (place + n * step) (2 ^ 64) (k * step) ∙ ap (λ p. p % 2 ^ 64) sums)
    where
      sums : place + n * step + k * step ≡ place + (n + k) * step
      sums = omega arith

  pub stepped_past : AreStepped past step (left - n) (length cells)
  stepped_past = record { within = λ k lt. omega (arith, h.within (n + k) (omega arith), past_on k) }

  pub stepped_drop : stepped_cells past step (left - n) cells ≡ drop n (stepped_cells place step left cells)
  stepped_drop =
      let all = length-stepped place step left cells h in
      let long = length-stepped past step (left - n) cells stepped_past in
      same_cells _ _ (omega (arith, long, all, length-drop n (stepped_cells place step left cells)))
      (λ k lt.
      let lk : k < left - n = omega (arith, long) in
      get-stepped past step (left - n) cells stepped_past k lk
      ∙ (ap (slice_get cells) (past_on k)
      ∙ sym (get-drop n (stepped_cells place step left cells) (n + k) k refl ∙ get-stepped place step left cells h (n + k) (omega arith))))

-- a line is within the slice
module _ {T : Type 0} (start count stride : ℕ) (cells : List T) (within : 0 < count → start + (count - 1) * stride < length cells) where
  place_before : (k : ℕ) → k < count → start + k * stride ≤ start + (count - 1) * stride
  place_before k lt = omega (arith, mul-le k stride (count - 1) stride (omega arith) (omega arith))

  line_some : (b : Bool) (k : ℕ) → k < count → IsSome (slice_get cells (start + counted b count k * stride))
  line_some b k lt = IsSome_within cells _ (omega (arith, place_before (counted b count k) (counted_within b count k lt), within (omega arith)))

  pub length-line_cells : (b : Bool) → length (line_cells start count stride b cells) ≡ count
  length-line_cells b = length-line count _ (line_some b)

  pub get-line_cells : (b : Bool) (k : ℕ) → k < count → slice_get (line_cells start count stride b cells) k ≡ slice_get cells (start + counted b count k * stride)
  get-line_cells b k lt = slice_get-line count _ k (line_some b) lt

  -- a line is the list of these cells
  pub is_line : (b : Bool) (xs : List T) → length xs ≡ count → ((k : ℕ) → k < count → slice_get xs k ≡ slice_get cells (start + counted b count k * stride)) → xs ≡ line_cells start count stride b cells
  is_line b xs long at =
      same_cells _ _ (long ∙ sym (length-line_cells b))
      (λ k lt. at k (omega (arith, long)) ∙ sym (get-line_cells b k (omega (arith, long))))

-- the cells of a line, one way and the other
module _ {T : Type 0} (start count stride : ℕ) (cells : List T) (some : 0 < count) (within : start + (count - 1) * stride < length cells) (fits : length cells < 2 ^ 64) where
  same_as : (b : Bool) (place step : ℕ) → AreStepped place step count (length cells) → ((k : ℕ) → k < count → stepped place step k ≡ start + counted b count k * stride) → stepped_cells place step count cells ≡ line_cells start count stride b cells
  same_as b place step h there =
      is_line start count stride cells (λ _. within) b _ (length-stepped place step count cells h)
      (λ k lt. get-stepped place step count cells h k lt ∙ ap (slice_get cells) (there k lt))

  back_by : (k : ℕ) → k < count → start + (count - 1) * stride ≡ start + (count - 1 - k) * stride + k * stride
  back_by k lt = let parts : count - 1 ≡ count - 1 - k + k = omega arith in ap (λ n. start + n * stride) parts ∙ omega arith

  forward_to : (k : ℕ) → k < count → stepped start stride k ≡ start + k * stride
  forward_to k lt = stepped_is start stride k (start + k * stride) 0 (omega arith) (omega (arith, back_by k lt))

  module _ (step : ℕ) (back : (step + stride) % 2 ^ 64 ≡ 0) where
    back_to : (k : ℕ) → k < count → stepped (start + (count - 1) * stride) step k ≡ start + (count - 1 - k) * stride
    back_to k lt =
        stepped_is (start + (count - 1) * stride) step k (start + (count - 1 - k) * stride) (k * q) sums (omega (arith, back_by k lt))
      where
        q : ℕ
        q = (step + stride) / 2 ^ 64

        turns : step + stride ≡ q * 2 ^ 64
        turns = omega (arith, div-add-mod (step + stride) (2 ^ 64), back)

        sums : start + (count - 1) * stride + k * step ≡ start + (count - 1 - k) * stride + k * q * 2 ^ 64
        sums = omega (arith, back_by k lt, ap (λ n. k * n) turns)

    pub steps_back : AreStepped (start + (count - 1) * stride) step count (length cells)
    steps_back = record { within = λ k lt. omega (arith, back_to k lt, back_by k lt) }

    pub stepped_back : stepped_cells (start + (count - 1) * stride) step count cells ≡ line_cells start count stride true cells
    stepped_back = same_as true (start + (count - 1) * stride) step steps_back (λ k lt. back_to k lt)

  pub steps_forward : AreStepped start stride count (length cells)
  steps_forward = record { within = λ k lt. omega (arith, forward_to k lt, back_by k lt) }

  pub stepped_forward : stepped_cells start stride count cells ≡ line_cells start count stride false cells
  stepped_forward = same_as false start stride steps_forward forward_to

-- the cells of a line that are side by side
module _ {T : Type 0} (start count past : ℕ) (cells : List T) (end : past ≡ start + count) (within : start + count ≤ length cells) where
  abbrev side : List T
  side = take (past - start) (drop start cells)

  long : length side ≡ count
  long = length-take-le (past - start) (drop start cells) (omega (arith, length-drop start cells)) ∙ omega arith

  at_side : (k : ℕ) → k < count → slice_get side k ≡ slice_get cells (start + k * 1)
  at_side k lt = get-take (past - start) (drop start cells) k (omega arith) ∙ get-drop start cells (start + k * 1) k (omega arith)

  pub side_by_side : (stride : ℕ) (b : Bool) → (1 < count → stride ≡ 1) → (1 < count → b ≡ false) → side ≡ line_cells start count stride b cells
  side_by_side stride b one ahead = is_line start count stride cells (λ some. omega (arith, last some)) b side long (λ k lt. at_side k lt ∙ ap (slice_get cells) (same k lt))
    where
      last : 0 < count → (count - 1) * stride ≡ count - 1
      last some = ⊎_elim (λ (few : count < 2). let none : count - 1 ≡ 0 = omega arith in ap (λ n. n * stride) none ∙ omega (arith, none)) (λ (many : 2 ≤ count). ap (λ n. (count - 1) * n) (one (omega arith)) ∙ omega arith) (cases_lt count 2)

      same : (k : ℕ) → k < count → start + k * 1 ≡ start + counted b count k * stride
      same k lt =
          ⊎_elim (λ (few : count < 2). let none : counted b count k ≡ 0 = omega (arith, counted_within b count k lt) in omega (arith, ap (λ n. n * stride) none))
          (λ (many : 2 ≤ count). omega (arith, ap (λ c. counted c count k * stride) (ahead (omega arith)), ap (λ n. k * n) (one (omega arith))))
          (cases_lt count 2)

  pub side_reversed : (stride : ℕ) (b : Bool) → stride ≡ 1 → b ≡ true → reverse side ≡ line_cells start count stride b cells
  side_reversed stride b one back =
      is_line start count stride cells (λ some. omega (arith, ap (λ n. (count - 1) * n) one)) b (reverse side) (length-reverse side ∙ long)
      (λ k lt.
      let there : length side - 1 - k ≡ count - 1 - k = omega (arith, long) in
      get-reverse side k (omega (arith, long))
      ∙ (ap (slice_get side) there
      ∙ (at_side (count - 1 - k) (omega arith)
      ∙ ap (slice_get cells) (omega (arith, ap (λ c. counted c count k * stride) back, ap (λ n. (count - 1 - k) * n) one)))))

-- ---- from its end

module _ {T : Type 0} where
  -- the last cell of a list is the first backwards, and the first is the last
  pub backwards_first : (old new : List T) (r : Option (Bor T)) → YieldsLastRef (λ (rest : List T). rest) old r new → YieldsFirstRef (λ (rest : List T). rest) (reverse old) r (reverse new)
  backwards_first old new None h = (ap reverse h.0, ap reverse h.1)
  backwards_first old new (Some x) h = ap reverse h ∙ reverse-append new (x.now ∷ [])

  pub backwards_last : (old new : List T) (r : Option (Bor T)) → YieldsFirstRef (λ (rest : List T). rest) old r new → YieldsLastRef (λ (rest : List T). rest) (reverse old) r (reverse new)
  backwards_last old new None h = (ap reverse h.0, ap reverse h.1)
  backwards_last old new (Some x) h = ap reverse h ∙ reverse-append (x.now ∷ []) new

  -- past some of the first backwards, without some of the last
  pub drop-reverse : (k : ℕ) (xs : List T) → k ≤ length xs → drop k (reverse xs) ≡ reverse (take (length xs - k) xs)
  drop-reverse k xs le =
      let n = length xs - k in
      ap (drop k) (ap reverse (sym (take-append-drop n xs)) ∙ reverse-append (take n xs) (drop n xs))
      ∙ drop_at (reverse (drop n xs)) (reverse (take n xs)) k (length-reverse (drop n xs) ∙ omega (arith, length-drop n xs))
