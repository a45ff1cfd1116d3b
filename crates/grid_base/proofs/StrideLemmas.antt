-- The cells of a list at a stride, and the iterators over them.
use Rattle.std.proofs.Common.{◌≡◌, ℕ, zero, suc, ◌+◌, ◌-◌, ◌*◌, ◌/◌, ◌%◌, ◌<◌, ◌≤◌, List, [], ◌∷◌, Some, None, take, drop, length, refl, ap, sym, ◌∙◌, arith, length-drop, length-take, ⊎_elim, slice_get, drop-drop, div-add-mod', option_copied, Bor}
use Rattle.grid_base.proofs.Common.{add-div_right, div-eq_of_lt, div_ceil, div-mul-add, mod_below, cases_eq, YieldsFirst, YieldsLast, YieldsFirstRef, YieldsLastRef, from_front, from_back, as_is, as_is_back, every, strided, LinesInOrder, LinesInReverse, EachLineInOrder, EachLineInReverse}
use Rattle.std.specs.declared.option.Option.{Option}
use Rattle.grid_base.proofs.StorageLemmas.{get-take, get-drop}

-- ---- an iterator for writing

module _ {X : Type 0} where
  -- to skip some items is to drop them
  pub every_after : (c g : ℕ) (xs : List X) → every c g xs ≡ every 0 g (drop c xs)
  every_after zero g [] = refl
  every_after zero g (x ∷ xs) = refl
  every_after (suc c) g [] = refl
  every_after (suc c) g (x ∷ xs) = every_after c g xs

ceil_step : (n g : ℕ) → (n + (g + 1)) / (g + 1) ≡ n / (g + 1) + 1
ceil_step n g = let p : 0 < g + 1 = omega arith in add-div_right n p

ceil_none : (g k : ℕ) → k ≤ g → (g - k) / (g + 1) ≡ 0
ceil_none g k h = let p : g - k < g + 1 = omega arith in div-eq_of_lt p

-- how many of them there are
pub length-every : {X : Type 0} (k g : ℕ) (xs : List X) → k ≤ g → length (every k g xs) ≡ (length xs + g - k) / (g + 1)
length-every k g [] h = let e : 0 + g - k ≡ g - k = omega arith in rw (e, ceil_none g k h) refl
length-every zero g (x ∷ xs) h =
    let i = length-every g g xs (omega arith) in
    let a : length xs + g - g ≡ length xs = omega arith in
    let b : length (x ∷ xs) + g - 0 ≡ length xs + (g + 1) = omega arith in
    rw (b, ceil_step (length xs) g) (let j = rw a at i in omega (arith, j))
length-every (suc k) g (x ∷ xs) h =
    let i = length-every k g xs (omega arith) in
    let b : length (x ∷ xs) + g - suc k ≡ length xs + g - k = omega arith in
    rw b i

-- the same, as a division that rounds up
pub ceil_is : (n g : ℕ) → (n + g) / (g + 1) ≡ div_ceil n (g + 1)
ceil_is n g =
    let parts = div-add-mod' n (g + 1) in
    let small : n % (g + 1) < g + 1 = mod_below n (g + 1) (omega arith) in
    ⊎_elim (λ none.
    let e : n + g ≡ n / (g + 1) * (g + 1) + g = omega (arith, none) in
    ap (λ x. x / (g + 1)) e ∙ (div-mul-add (n / (g + 1)) (g + 1) g (omega arith) ∙ omega (arith, none)))
    (λ some.
    let e : n + g ≡ (n / (g + 1) + 1) * (g + 1) + (n % (g + 1) - 1) = omega (arith, some) in
    ap (λ x. x / (g + 1)) e ∙ (div-mul-add (n / (g + 1) + 1) (g + 1) (n % (g + 1) - 1) (omega arith) ∙ omega (arith, some)))
    (cases_eq (n % (g + 1)) 0)

pub length-strided : {X : Type 0} (stride : ℕ) (xs : List X) → 0 < stride → length (every 0 (stride - 1) xs) ≡ div_ceil (length xs) stride
length-strided stride xs p =
    let one : stride - 1 + 1 ≡ stride = omega arith in
    let n : length xs + (stride - 1) - 0 ≡ length xs + (stride - 1) = omega arith in
    length-every 0 (stride - 1) xs (omega arith) ∙ (ap (λ k. k / (stride - 1 + 1)) n ∙ (ceil_is (length xs) (stride - 1) ∙ ap (div_ceil (length xs)) one))

-- the first of them, and those after it
pub line_step : {X : Type 0} (n : ℕ) (xs : List X) (x : X) → 0 < n → slice_get xs 0 ≡ Some x → every 0 (n - 1) xs ≡ x ∷ every 0 (n - 1) (drop n xs)
line_step n [] x p e = absurd (cc)
line_step n (y ∷ ys) x p e =
    let first : y ≡ x = cc e in
    let one : suc (n - 1) ≡ n = omega arith in
    ap (λ z. z ∷ every (n - 1) (n - 1) ys) first
    ∙ (ap (λ l. x ∷ l) (every_after (n - 1) (n - 1) ys) ∙ ap (λ k. x ∷ every 0 (n - 1) (drop k (y ∷ ys))) one)

-- ---- where the cells of a line come from

module _ {X : Type 0} where
  get-every : (xs : List X) (k g j i : ℕ) → i ≡ k + j * (g + 1) → slice_get (every k g xs) j ≡ slice_get xs i
  get-every [] k g j i e = refl
  get-every (x ∷ xs) zero g zero zero e = refl
  get-every (x ∷ xs) zero g zero (suc i) e = absurd (omega arith)
  get-every (x ∷ xs) zero g (suc j) zero e = absurd (omega arith)
  get-every (x ∷ xs) zero g (suc j) (suc i) e = get-every xs g g j i (omega arith)
  get-every (x ∷ xs) (suc k) g j zero e = absurd (omega arith)
  get-every (x ∷ xs) (suc k) g j (suc i) e = get-every xs k g j i (omega arith)

  pub get-strided : (start end stride k : ℕ) (xs : List X) → 0 < stride → start + k * stride < end → slice_get (strided start end stride xs) k ≡ slice_get xs (start + k * stride)
  get-strided start end stride k xs p h =
      let one : stride ≡ stride - 1 + 1 = omega arith in
      get-every (take (end - start) (drop start xs)) 0 (stride - 1) k (k * stride) (omega (arith, ap (λ x. k * x) one))
      ∙ (get-take (end - start) (drop start xs) (k * stride) (omega arith) ∙ get-drop start xs (start + k * stride) (k * stride) refl)

  pub length-line_of : (start end stride : ℕ) (xs : List X) → 0 < stride → end ≤ length xs → length (strided start end stride xs) ≡ div_ceil (end - start) stride
  length-line_of start end stride xs p h =
      let cut : length (take (end - start) (drop start xs)) ≡ end - start = omega (arith, length-take (end - start) (drop start xs), length-drop start xs) in
      length-strided stride (take (end - start) (drop start xs)) p ∙ ap (λ n. div_ceil n stride) cut

-- ---- an iterator along a line

module _ (X : Type 0) where
  -- it gives what it has left
  pub lines_in_order : LinesInOrder X
  lines_in_order = from_front (YieldsFirstRef (λ (rest : List X). rest)) (λ y. y.now) (λ rest. rest) (λ s t h. ap length h.0) (λ s x t h. h)

  pub lines_in_reverse : LinesInReverse X
  lines_in_reverse = from_back (YieldsLastRef (λ (rest : List X). rest)) (λ y. y.now) (λ rest. rest) (λ s t h. ap length h.0) (λ s x t h. h)

  -- an iterator over lines gives the lines that it has left
  pub each_line_in_order : EachLineInOrder X
  each_line_in_order p s = as_is p p.from (from_front (YieldsFirst (λ (rest : List (List X)). rest)) (λ y. y) (λ rest. rest) (λ s t h. ap length h.0) (λ s x t h. h) p s)

  pub each_line_in_reverse : EachLineInReverse X
  each_line_in_reverse p s = as_is_back p p.from (from_back (YieldsLast (λ (rest : List (List X)). rest)) (λ y. y) (λ rest. rest) (λ s t h. ap length h.0) (λ s x t h. h) p s)

-- the first cell after n others
pub nth_found : {X : Type 0} (n : ℕ) (xs mid rest : List X) (r : Option (Bor X)) → mid ≡ drop n xs → YieldsFirstRef (λ (l : List X). l) mid r rest → (option_copied r ≡ slice_get xs n) × (rest ≡ drop (n + 1) xs)
nth_found n xs mid rest None e h =
    let l : [] ≡ drop n xs = sym h.0 ∙ e in
    (ap (λ l. slice_get l 0) l ∙ get-drop n xs n 0 (omega arith), h.1 ∙ (ap (drop 1) l ∙ drop-drop 1 n xs))
nth_found n xs mid rest (Some x) e h =
    let l : x.now ∷ rest ≡ drop n xs = sym h ∙ e in
    (ap (λ l. slice_get l 0) l ∙ get-drop n xs n 0 (omega arith), ap (drop 1) l ∙ drop-drop 1 n xs)

-- the same of an iterator by value, as one over rows
pub nth_row_found : {X : Type 0} (n : ℕ) (xs mid rest : List X) (r : Option X) → mid ≡ drop n xs → YieldsFirst (λ (l : List X). l) mid r rest → (r ≡ slice_get xs n) × (rest ≡ drop (n + 1) xs)
nth_row_found n xs mid rest None e h =
    let l : [] ≡ drop n xs = sym h.0 ∙ e in
    (ap (λ l. slice_get l 0) l ∙ get-drop n xs n 0 (omega arith), h.1 ∙ (ap (drop 1) l ∙ drop-drop 1 n xs))
nth_row_found n xs mid rest (Some x) e h =
    let l : x ∷ rest ≡ drop n xs = sym h ∙ e in
    (ap (λ l. slice_get l 0) l ∙ get-drop n xs n 0 (omega arith), ap (drop 1) l ∙ drop-drop 1 n xs)
