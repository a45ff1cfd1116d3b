-- What is put into a table, taken out of it and padded, through the flips and the transpose.
use Rattle.std.proofs.Common.{◌≡◌, ℕ, ◌-◌, ◌<◌, ◌≤◌, List, [], ◌∷◌, ◌++◌, length, map, take, drop, reverse, replicate, refl, sym, ◌∙◌, ap, arith}
use Rattle.grid_deferred.proofs.Common.{map-append, length-reverse, row_count, col_count, IsTable, insert_rows, expanded_rows, prepended_rows, Effect, nothing, inserts, removes, pads_end, pads_front, after_effect, cols-act, copies, expanded-put, prepended-put, IsApplicable}
use Rattle.grid_base.specs.declared.words.Symmetry.TheVariants.{FlipRows}
use Rattle.grid_commands.specs.declared.command.Axis.TheVariants.{Row}
use Rattle.grid_deferred.proofs.MirrorLemmas.{put-reversed, take-reversed, reverse-replicate, map-replicate, flip_rows-is, put-mapped, take-mapped, map-reverse-reverse}

module _ {T : Type 0} where
  abbrev pub flipped_effect : ℕ → Effect T → Effect T
  flipped_effect m nothing = nothing
  flipped_effect m (inserts i ls) = inserts (m - i) (reverse ls)
  flipped_effect m (removes i k) = removes (m - i - k) k
  flipped_effect m (pads_end k) = pads_front k
  flipped_effect m (pads_front k) = pads_end k

  abbrev pub reversed_effect : Effect T → Effect T
  reversed_effect nothing = nothing
  reversed_effect (inserts i ls) = inserts i (map reverse ls)
  reversed_effect (removes i k) = removes i k
  reversed_effect (pads_end k) = pads_end k
  reversed_effect (pads_front k) = pads_front k

  -- padding by cases on whether there are rows
  some_rows : (r : List T) (t : List (List T)) → 0 < row_count (r ∷ t)
  some_rows r t = omega arith

  pub cols-flipped : (t : List (List T)) → IsTable t → col_count (reverse t) ≡ col_count t
  cols-flipped t h = ap col_count (sym (flip_rows-is t h)) ∙ cols-act FlipRows t h

  reverse-copies : (k n : ℕ) (d : T) → reverse (copies k n d) ≡ copies k n d
  reverse-copies k n d = reverse-replicate k (replicate n d)

  -- copies put into the reversed table
  pads-flipped : (t : List (List T)) (h : IsTable t) (k : ℕ) (d : T) (i j : ℕ) → i ≤ row_count t → row_count t - i ≡ j → insert_rows i (copies k (col_count (reverse t)) d) (reverse t) ≡ reverse (insert_rows j (copies k (col_count t) d) t)
  pads-flipped t h k d i j le e =
      let n : col_count (reverse t) ≡ col_count t = cols-flipped t h in
      put-reversed i (copies k (col_count (reverse t)) d) t le
      ∙ (ap (λ x. reverse (take x t ++ reverse (copies k (col_count (reverse t)) d) ++ drop x t)) e
      ∙ ap (λ v. reverse (take j t ++ v ++ drop j t)) (reverse-copies k (col_count (reverse t)) d ∙ ap (λ x. copies k x d) n))

  pub expand-flipped : (t : List (List T)) (h : IsTable t) (k : ℕ) (d : T) → expanded_rows k d (reverse t) ≡ reverse (prepended_rows k d t)
  expand-flipped [] h k d = refl
  expand-flipped (r ∷ t) h k d =
      let u = r ∷ t in
      let n : length (reverse u) ≡ row_count u = length-reverse u in
      expanded-put k d (reverse u) (omega (arith, n))
      ∙ (pads-flipped u h k d (row_count (reverse u)) 0 (omega (arith, n)) (omega (arith, n))
      ∙ ap reverse (sym (prepended-put k d u (some_rows r t))))

  pub prepend-flipped : (t : List (List T)) (h : IsTable t) (k : ℕ) (d : T) → prepended_rows k d (reverse t) ≡ reverse (expanded_rows k d t)
  prepend-flipped [] h k d = refl
  prepend-flipped (r ∷ t) h k d =
      let u = r ∷ t in
      let n : length (reverse u) ≡ row_count u = length-reverse u in
      prepended-put k d (reverse u) (omega (arith, n))
      ∙ (pads-flipped u h k d 0 (row_count u) (omega arith) (omega arith)
      ∙ ap reverse (sym (expanded-put k d u (some_rows r t))))

  copies-reversed : (r : List T) (k : ℕ) (d : T) → replicate k (replicate (length (reverse r)) d) ≡ map reverse (replicate k (replicate (length r) d))
  copies-reversed r k d =
      ap (λ n. replicate k (replicate n d)) (length-reverse r)
      ∙ sym (map-replicate reverse k (replicate (length r) d) ∙ ap (replicate k) (reverse-replicate (length r) d))

  -- a deed on rows, through a flip of the rows
  pub effect-flipped : (d : T) (x : Effect T) (t : List (List T)) → IsApplicable x (reverse t) → IsTable t → after_effect d Row x (reverse t) ≡ reverse (after_effect d Row (flipped_effect (row_count t) x) t)
  effect-flipped d nothing t g h = refl
  effect-flipped d (inserts i ls) t g h = put-reversed i ls t (omega (arith, g.in_rows, length-reverse t))
  effect-flipped d (removes i k) t g h = take-reversed i k t (omega (arith, g.in_rows, length-reverse t))
  effect-flipped d (pads_end k) t g h = expand-flipped t h k d
  effect-flipped d (pads_front k) t g h = prepend-flipped t h k d

  -- and of the columns
  pub effect-reversed : (d : T) (x : Effect T) (t : List (List T)) → after_effect d Row x (map reverse t) ≡ map reverse (after_effect d Row (reversed_effect x) t)
  effect-reversed d nothing t = refl
  effect-reversed d (inserts i ls) t = ap (λ v. insert_rows i v (map reverse t)) (sym (map-reverse-reverse ls)) ∙ put-mapped reverse i (map reverse ls) t
  effect-reversed d (removes i k) t = take-mapped reverse i k t
  effect-reversed d (pads_end k) [] = refl
  effect-reversed d (pads_end k) (r ∷ t) = ap (λ v. map reverse (r ∷ t) ++ v) (copies-reversed r k d) ∙ sym (map-append reverse (r ∷ t) (replicate k (replicate (length r) d)))
  effect-reversed d (pads_front k) [] = refl
  effect-reversed d (pads_front k) (r ∷ t) = ap (λ v. v ++ map reverse (r ∷ t)) (copies-reversed r k d) ∙ sym (map-append reverse (replicate k (replicate (length r) d)) (r ∷ t))
