-- Lists into which a part is put, and from which a part is taken.
use Rattle.std.proofs.Common.{◌≡◌, ℕ, ◌+◌, ◌-◌, ◌<◌, ◌≤◌, List, ◌++◌, length, get_or, take, drop, unwrap_or, refl, sym, ◌∙◌, ap, subst, arith, length-append, length-drop, ⊎_elim, slice_get, length-take-le}
use Rattle.grid.proofs.Common.{unwrap_or-slice_get, cases_lt, get_append_left, get_append_right, get-take, get-drop}

module _ {X : Type 0} where
  -- a list of which the elements from i to n are gone, or are there twice
  module _ (xs : List X) (i n : ℕ) (in_list : i ≤ length xs) where
    pub get-cut_before : (k : ℕ) → k < i → slice_get (take i xs ++ drop n xs) k ≡ slice_get xs k
    get-cut_before k lt = get_append_left (take i xs) (drop n xs) k (omega (arith, length-take-le i xs in_list)) ∙ get-take i xs k lt

    pub get-cut_after : (k j : ℕ) → i + j ≡ k → slice_get (take i xs ++ drop n xs) k ≡ slice_get xs (n + j)
    get-cut_after k j e = get_append_right (take i xs) (drop n xs) k j (omega (arith, length-take-le i xs in_list)) ∙ get-drop n xs (n + j) j refl

  -- a list into which the part ys is put before place i
  module _ (xs ys : List X) (i : ℕ) (in_list : i ≤ length xs) where
    length-front : length (take i xs ++ ys) ≡ i + length ys
    length-front = omega (arith, length-append (take i xs) ys, length-take-le i xs in_list)

    pub get-put_before : (k : ℕ) → k < i → slice_get (take i xs ++ ys ++ drop i xs) k ≡ slice_get xs k
    get-put_before k lt =
        get_append_left (take i xs ++ ys) (drop i xs) k (omega (arith, length-front))
        ∙ (get_append_left (take i xs) ys k (omega (arith, length-take-le i xs in_list)) ∙ get-take i xs k lt)

    pub get-put_new : (j : ℕ) → j < length ys → slice_get (take i xs ++ ys ++ drop i xs) (i + j) ≡ slice_get ys j
    get-put_new j lt =
        get_append_left (take i xs ++ ys) (drop i xs) (i + j) (omega (arith, length-front))
        ∙ get_append_right (take i xs) ys (i + j) j (omega (arith, length-take-le i xs in_list))

    pub get-put_after : (k : ℕ) → i ≤ k → slice_get (take i xs ++ ys ++ drop i xs) (length ys + k) ≡ slice_get xs k
    get-put_after k le =
        get_append_right (take i xs ++ ys) (drop i xs) (length ys + k) (k - i) (omega (arith, length-front))
        ∙ get-drop i xs k (k - i) (omega arith)

    pub length-put : length (take i xs ++ ys ++ drop i xs) ≡ length xs + length ys
    length-put = omega (arith, length-append (take i xs ++ ys) (drop i xs), length-front, length-drop i xs)

  pub length-cut : (xs : List X) (i k : ℕ) → i + k ≤ length xs → length (take i xs ++ drop (i + k) xs) + k ≡ length xs
  length-cut xs i k le = omega (arith, length-append (take i xs) (drop (i + k) xs), length-take-le i xs (omega arith), length-drop (i + k) xs)

  -- an element by its place, from a look-up of it
  pub get_or-same : (xs ys : List X) (k j : ℕ) (d : X) → slice_get xs k ≡ slice_get ys j → get_or xs k d ≡ get_or ys j d
  get_or-same xs ys k j d e = sym (unwrap_or-slice_get xs k d) ∙ (ap (λ o. unwrap_or o d) e ∙ unwrap_or-slice_get ys j d)

-- what holds of the m places that stay and of the k that are put before place i holds of all
pub put_cases : (P : ℕ → Type 0) (i m k : ℕ) → ((r : ℕ) → r < i → P r) → ((j : ℕ) → j < k → P (i + j)) → ((r : ℕ) → i ≤ r → r < m → P (k + r)) → (r : ℕ) → r < m + k → P r
put_cases P i m k before new after r lt =
    ⊎_elim (λ l. before r l)
    (λ ge. ⊎_elim (λ l. let e : i + (r - i) ≡ r = omega arith in subst P e (new (r - i) (omega arith)))
    (λ le. let e : k + (r - k) ≡ r = omega arith in subst P e (after (r - k) (omega arith) (omega arith)))
    (cases_lt r (i + k)))
    (cases_lt r i)
