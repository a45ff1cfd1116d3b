-- The flips of a table as lists reversed, and edits of its rows in between.
use Rattle.std.proofs.Common.{◌≡◌, ℕ, zero, suc, ◌+◌, ◌-◌, ◌<◌, ◌≤◌, List, [], ◌∷◌, ◌++◌, length, map, take, drop, reverse, replicate, refl, sym, ◌∙◌, ap, arith, append_assoc, take-append-drop, take_at, slice_get, length-drop}
use Rattle.grid_deferred.proofs.Common.{reverse-append, reverse-reverse, length-reverse, get_or-reverse, take-map, drop-map, map-append, length-map, get_or-map, row, row_count, col_count, IsTable, act, get-reverse, same_tables, rows-act, cols-act, cell-act, IsTable-act, without_rows}
use Rattle.grid_base.proofs.SteppedLemmas.{drop-reverse}
use Rattle.grid_base.specs.declared.words.Symmetry.TheVariants.{FlipRows, FlipCols}
use Rattle.grid.specs.Edits.{insert_rows}

module _ {X : Type 0} where
  -- a list in two parts, reversed
  parts-reversed : (k : ℕ) (xs : List X) → reverse xs ≡ reverse (drop k xs) ++ reverse (take k xs)
  parts-reversed k xs = ap reverse (sym (take-append-drop k xs)) ∙ reverse-append (take k xs) (drop k xs)

  length-back : (k : ℕ) (xs : List X) → k ≤ length xs → length (reverse (drop (length xs - k) xs)) ≡ k
  length-back k xs le = length-reverse (drop (length xs - k) xs) ∙ omega (arith, length-drop (length xs - k) xs)

  pub take-reverse : (k : ℕ) (xs : List X) → k ≤ length xs → take k (reverse xs) ≡ reverse (drop (length xs - k) xs)
  take-reverse k xs le =
      let n = length xs - k in
      ap (take k) (parts-reversed n xs) ∙ take_at (reverse (drop n xs)) (reverse (take n xs)) k (length-back k xs le)

  -- a part put into a reversed list, and taken out of it
  pub put-reversed : (k : ℕ) (ys xs : List X) → k ≤ length xs → take k (reverse xs) ++ ys ++ drop k (reverse xs) ≡ reverse (take (length xs - k) xs ++ reverse ys ++ drop (length xs - k) xs)
  put-reversed k ys xs le =
      let n = length xs - k in
      let a = take n xs in
      let b = drop n xs in
      ap (λ v. v ++ ys ++ drop k (reverse xs)) (take-reverse k xs le)
      ∙ (ap (λ v. reverse b ++ ys ++ v) (drop-reverse k xs le)
      ∙ (append_assoc (reverse b) ys (reverse a)
      ∙ sym (reverse-append (a ++ reverse ys) b
      ∙ ap (λ v. reverse b ++ v) (reverse-append a (reverse ys) ∙ ap (λ v. v ++ reverse a) (reverse-reverse ys)))))

  pub take-reversed : (k n : ℕ) (xs : List X) → k + n ≤ length xs → take k (reverse xs) ++ drop (k + n) (reverse xs) ≡ reverse (take (length xs - k - n) xs ++ drop (length xs - k - n + n) xs)
  take-reversed k n xs le =
      let e : length xs - (k + n) ≡ length xs - k - n = omega arith in
      let f : length xs - k ≡ length xs - k - n + n = omega arith in
      ap (λ v. v ++ drop (k + n) (reverse xs)) (take-reverse k xs (omega arith) ∙ ap (λ x. reverse (drop x xs)) f)
      ∙ (ap (λ v. reverse (drop (length xs - k - n + n) xs) ++ v) (drop-reverse (k + n) xs le ∙ ap (λ x. reverse (take x xs)) e)
      ∙ sym (reverse-append (take (length xs - k - n) xs) (drop (length xs - k - n + n) xs)))

  replicate-more : (k : ℕ) (d : X) → replicate k d ++ d ∷ [] ≡ d ∷ replicate k d
  replicate-more zero d = refl
  replicate-more (suc k) d = ap (λ v. d ∷ v) (replicate-more k d)

  pub reverse-replicate : (k : ℕ) (d : X) → reverse (replicate k d) ≡ replicate k d
  reverse-replicate zero d = refl
  reverse-replicate (suc k) d =
      reverse-append (d ∷ []) (replicate k d) ∙ (ap (λ v. v ++ d ∷ []) (reverse-replicate k d) ∙ replicate-more k d)

pub map-replicate : {X Y : Type 0} (f : X → Y) (k : ℕ) (d : X) → map f (replicate k d) ≡ replicate k (f d)
map-replicate f zero d = refl
map-replicate f (suc k) d = ap (λ v. f d ∷ v) (map-replicate f k d)

module _ {T : Type 0} where
  -- the flips
  pub flip_rows-is : (t : List (List T)) → IsTable t → act FlipRows t ≡ reverse t
  flip_rows-is t h =
      let m = row_count t in
      let size : row_count (act FlipRows t) ≡ m = rows-act FlipRows t in
      let wide : (r : ℕ) → r < m → length (row (act FlipRows t) r) ≡ col_count t = λ r lt. (IsTable-act FlipRows t h).even r (omega arith) ∙ cols-act FlipRows t h in
      let at : (r : ℕ) → r < m → row (reverse t) r ≡ row t (m - 1 - r) = λ r lt. get_or-reverse t r [] lt in
      same_tables _ _ (size ∙ sym (length-reverse t))
      (λ r lt. wide r (omega arith) ∙ sym (ap length (at r (omega arith)) ∙ h.even (m - 1 - r) (omega arith)))
      (λ r c lt lc. cell-act FlipRows t r c h (omega arith) (omega (arith, wide r (omega arith))) ∙ sym (ap (λ v. slice_get v c) (at r (omega arith))))

  pub flip_cols-is : (t : List (List T)) → IsTable t → act FlipCols t ≡ map reverse t
  flip_cols-is t h =
      let m = row_count t in
      let n = col_count t in
      let size : row_count (act FlipCols t) ≡ m = rows-act FlipCols t in
      let wide : (r : ℕ) → r < m → length (row (act FlipCols t) r) ≡ n = λ r lt. (IsTable-act FlipCols t h).even r (omega arith) ∙ cols-act FlipCols t h in
      let at : (r : ℕ) → r < m → row (map reverse t) r ≡ reverse (row t r) = λ r lt. get_or-map reverse t r [] [] lt in
      same_tables _ _ (size ∙ sym (length-map t reverse))
      (λ r lt. wide r (omega arith) ∙ sym (ap length (at r (omega arith)) ∙ (length-reverse (row t r) ∙ h.even r (omega arith))))
      (λ r c lt lc.
      let l : r < m = omega arith in
      let k : c < n = omega (arith, wide r l) in
      let e : length (row t r) ≡ n = h.even r l in
      cell-act FlipCols t r c h l k
      ∙ sym (ap (λ v. slice_get v c) (at r l) ∙ (get-reverse (row t r) c (omega arith) ∙ ap (λ x. slice_get (row t r) (x - 1 - c)) e)))

  -- rows put and taken, with each row reversed
  pub put-mapped : (f : List T → List T) (i : ℕ) (lines t : List (List T)) → insert_rows i (map f lines) (map f t) ≡ map f (insert_rows i lines t)
  put-mapped f i lines t =
      ap (λ v. v ++ map f lines ++ drop i (map f t)) (take-map f i t)
      ∙ (ap (λ v. map f (take i t) ++ map f lines ++ v) (drop-map f i t)
      ∙ sym (map-append f (take i t ++ lines) (drop i t) ∙ ap (λ v. v ++ map f (drop i t)) (map-append f (take i t) lines)))

  pub take-mapped : (f : List T → List T) (i k : ℕ) (t : List (List T)) → without_rows i k (map f t) ≡ map f (without_rows i k t)
  take-mapped f i k t =
      ap (λ v. v ++ drop (i + k) (map f t)) (take-map f i t)
      ∙ (ap (λ v. map f (take i t) ++ v) (drop-map f (i + k) t) ∙ sym (map-append f (take i t) (drop (i + k) t)))

  pub map-reverse-reverse : (t : List (List T)) → map reverse (map reverse t) ≡ t
  map-reverse-reverse [] = refl
  map-reverse-reverse (r ∷ t) = ap (λ x. x ∷ map reverse (map reverse t)) (reverse-reverse r) ∙ ap (λ v. r ∷ v) (map-reverse-reverse t)
