-- Padding is a delete backwards: the swaps that take the new rows out again, in opposite order, put them in.
use Rattle.std.proofs.Common.{◌≡◌, ℕ, ◌+◌, ◌-◌, ◌*◌, ◌<◌, ◌≤◌, ◌⊎◌, inl, inr, ⊎_elim, Some, List, length, replicate, sym, ◌∙◌, ap, subst, arith, slice_get, length-append}
use Rattle.grid_laws.proofs.Common.{length-replicate, cases_lt, row, row_count, col_count, cell, IsTable, storage, place, insert_rows, without_rows, rows_added_shift, rows_taken_shift, same_tables, get_append_left, get_append_right, length-storage, get-storage, has_place, place_within, get-replicate, row-put_before, row-put_new, row-put_after, rows-put, row-take_before, row-take_after, rows-take, shift-taken, LinesFit, IsTable-put, IsTable-width, cols-put_lines, copies, row-copies, HasWidth-copies, AreWithin, Makes, IsLeast, HasDifferentCells, Lacks, filled_up}
use Rattle.grid_base.specs.declared.order.Order.{Order}
use Rattle.grid_laws.proofs.OriginLemmas.{origin, origin_within, origin_different, makes, made, undoing, length-undoing, undoing_within, origin_undone}
use Rattle.grid_laws.proofs.PigeonLemmas.{IsAlone}
use Rattle.grid_laws.proofs.DeleteLemmas.{skip, skip_before, skip_after, skip_below, AreAlone, alone_at, taken_is_least}

-- a list of which each item is d, or one of the shorter list and like no other
module _ {T : Type 0} (d : T) (xs ys : List T) (le : length ys ≤ length xs) (each : (j : ℕ) → j < length xs → (slice_get xs j ≡ Some d) ⊎ ((x : ℕ) × (x < length ys) × (slice_get xs j ≡ slice_get ys x))) (alone : (x : ℕ) → x < length ys → (i : ℕ) × IsAlone xs i × (slice_get xs i ≡ slice_get ys x)) where
  length-filled : length (filled_up d (length xs) ys) ≡ length xs
  length-filled = omega (arith, length-append ys (replicate (length xs - length ys) d), length-replicate (length xs - length ys) d)

  filled_front : (k : ℕ) → k < length ys → slice_get (filled_up d (length xs) ys) k ≡ slice_get ys k
  filled_front k lt = get_append_left ys (replicate (length xs - length ys) d) k lt

  -- swaps that take the items d out bring them after the others
  filled_is : (ps : List (ℕ × ℕ)) → Makes ps xs ys → (k : ℕ) → k < length xs → slice_get (filled_up d (length xs) ys) k ≡ slice_get xs (origin ps k)
  filled_is ps m k lt =
      ⊎_elim (λ low. filled_front k low ∙ sym (made ps xs ys m k low))
      (λ high.
      get_append_right ys (replicate (length xs - length ys) d) k (k - length ys) (omega arith)
      ∙ (get-replicate (length xs - length ys) d (k - length ys) (omega arith)
      ∙ ⊎_elim (λ new. sym new)
      (λ old.
      let one = alone old.0 old.1 in
      let here = one.1 (origin ps k) (origin_within (length xs) ps k m.within lt) (old.2 ∙ sym one.2) in
      let there = one.1 (origin ps old.0) (origin_within (length xs) ps old.0 m.within (omega (arith, old.1))) (made ps xs ys m old.0 old.1 ∙ sym one.2) in
      let same = origin_different ps k old.0 (here ∙ sym there) in
      absurd (omega (arith, old.1)))
      (each (origin ps k) (origin_within (length xs) ps k m.within lt))))
      (cases_lt k (length ys))

  pub filled_is_least : (k : ℕ) → IsLeast k xs ys → IsLeast k (filled_up d (length xs) ys) xs
  filled_is_least k h =
      let len = length-filled in
      let ps = h.reached.0 in
      let m = h.reached.2 in
      let back = undoing_within (length xs) ps m.within in
      record {
        reached = (
          undoing ps,
          length-undoing ps ∙ h.reached.1,
          makes (undoing ps) (filled_up d (length xs) ys) xs (subst (λ n. AreWithin n (undoing ps)) (sym len) back) (omega arith)
              (λ j lt. filled_is ps m (origin (undoing ps) j) (origin_within (length xs) (undoing ps) j back lt) ∙ ap (slice_get xs) (origin_undone ps j)),
        );
        least = λ qs b.
            let ahead = undoing_within (length xs) qs (subst (λ n. AreWithin n qs) len b.within) in
            omega (
              arith,
              length-undoing qs,
              h.least (undoing qs)
                  (makes (undoing qs) xs ys ahead le
                  (λ j lt.
                  sym (made qs (filled_up d (length xs) ys) xs b (origin (undoing qs) j) (origin_within (length xs) (undoing qs) j ahead (omega arith)))
                  ∙ (ap (slice_get (filled_up d (length xs) ys)) (origin_undone qs j) ∙ filled_front j lt))),
            );
      }

module _ {T : Type 0} (t : List (List T)) (h : IsTable t) (u : HasDifferentCells t) (d : T) (lack : Lacks d t) (i k : ℕ) (le : i ≤ row_count t) (some : 0 < k) (more : 0 < row_count t) where
  abbrev fresh : List (List T)
  fresh = copies k (col_count t) d

  abbrev padded : List (List T)
  padded = insert_rows i fresh t

  rows_fresh : row_count fresh ≡ k
  rows_fresh = length-replicate k (replicate (col_count t) d)

  cols_fresh : col_count fresh ≡ col_count t
  cols_fresh = HasWidth-copies k (col_count t) d 0 (omega (arith, rows_fresh))

  fits : LinesFit i fresh t
  fits = record {
    in_rows = le;
    old = h;
    new = IsTable-width fresh (col_count t) (h.nonempty 0 more) (HasWidth-copies k (col_count t) d);
    width = λ p q. cols_fresh;
  }

  rows_padded : row_count padded ≡ row_count t + k
  rows_padded = omega (arith, rows-put i fresh t le, rows_fresh)

  cols_padded : col_count padded ≡ col_count t
  cols_padded = cols-put_lines i fresh t fits (omega (arith, rows_fresh)) ∙ cols_fresh

  table_padded : IsTable padded
  table_padded = IsTable-put i fresh t fits

  row_old : (r : ℕ) → row padded (skip i k r) ≡ row t r
  row_old r =
      ⊎_elim (λ low. ap (row padded) (skip_before i k r low) ∙ row-put_before i fresh t le r low)
      (λ high. ap (row padded) (skip_after i k r high ∙ ap (λ x. x + r) (sym rows_fresh)) ∙ row-put_after i fresh t le r high)
      (cases_lt r i)

  cell_new : (j c : ℕ) → j < k → c < col_count t → cell padded (i + j) c ≡ Some d
  cell_new j c lj lc =
      ap (λ v. slice_get v c) (row-put_new i fresh t le j (omega (arith, rows_fresh)) ∙ row-copies k (col_count t) d j lj)
      ∙ get-replicate (col_count t) d c lc

  -- each row is a new one, or an old one
  row_is : (x : ℕ) → x < row_count padded → ((j : ℕ) × (j < k) × (x ≡ i + j)) ⊎ ((r : ℕ) × (r < row_count t) × (x ≡ skip i k r))
  row_is x lt =
      let rows = rows_padded in
      ⊎_elim (λ low. inr (x, omega arith, sym (skip_before i k x low)))
      (λ high.
      ⊎_elim (λ new. inl (x - i, omega arith, omega arith))
      (λ old. inr (x - k, omega arith, omega (arith, skip_after i k (x - k) (omega arith))))
      (cases_lt x (i + k)))
      (cases_lt x i)

  alone_padded : AreAlone padded i k (row_count t)
  alone_padded = record {
    alone = λ r c x y lr lc there e.
        let cols = cols_padded in
        let was : cell padded x y ≡ cell t r c = e ∙ ap (λ v. slice_get v c) (row_old r) in
        ⊎_elim (λ new.
        absurd (lack.lacks r c (lr, omega arith)
        (sym was ∙ (ap (λ z. cell padded z y) new.2 ∙ cell_new new.0 y new.1 (omega (arith, there.1))))))
        (λ old.
        let same = u.different old.0 y r c (old.1, omega (arith, there.1)) (lr, omega arith)
        (sym (ap (λ z. cell padded z y) old.2 ∙ ap (λ v. slice_get v y) (row_old old.0)) ∙ was) in
        (old.2 ∙ ap (skip i k) same.0, same.1))
        (row_is x there.0);
  }

  row_back : (r : ℕ) → row (without_rows i k padded) r ≡ row t r
  row_back r =
      let rows = rows_padded in
      ⊎_elim (λ low. row-take_before i k padded (omega arith) r low ∙ ap (row padded) (sym (skip_before i k r low)))
      (λ high. row-take_after i k padded (omega arith) r high ∙ ap (row padded) (sym (skip_after i k r high)))
      (cases_lt r i)
      ∙ row_old r

  taken_back : without_rows i k padded ≡ t
  taken_back =
      let rows = rows_padded in
      same_tables (without_rows i k padded) t (omega (arith, rows-take i k padded (omega arith)))
      (λ r lt. ap length (row_back r)) (λ r c lt lc. ap (λ v. slice_get v c) (row_back r))

  -- each cell of the storage after is a new one, or comes from the storage before
  item_is : (o : Order) (j : ℕ) → j < length (storage o padded) → (slice_get (storage o padded) j ≡ Some d) ⊎ ((x : ℕ) × (x < length (storage o t)) × (slice_get (storage o padded) j ≡ slice_get (storage o t) x))
  item_is o j lt =
      let p = has_place o (row_count padded) (col_count padded) j (omega (arith, length-storage o padded table_padded)) in
      let lc : p.c < col_count t = omega (arith, p.lc, cols_padded) in
      let is : slice_get (storage o padded) j ≡ cell padded p.r p.c =
      ap (slice_get (storage o padded)) (sym p.is) ∙ get-storage o padded p.r p.c table_padded p.lr p.lc in
      ⊎_elim (λ new. inl (is ∙ (ap (λ z. cell padded z p.c) new.2 ∙ cell_new new.0 p.c new.1 lc)))
      (λ old.
      inr (
        place o (row_count t) (col_count t) old.0 p.c,
        omega (arith, length-storage o t h, place_within o (row_count t) (col_count t) old.0 p.c old.1 lc),
        is
            ∙ (ap (λ z. cell padded z p.c) old.2
            ∙ (ap (λ v. slice_get v p.c) (row_old old.0) ∙ sym (get-storage o t old.0 p.c h old.1 lc))),
      ))
      (row_is p.r p.lr)

  item_alone : (o : Order) (x : ℕ) → x < length (storage o t) → (j : ℕ) × IsAlone (storage o padded) j × (slice_get (storage o padded) j ≡ slice_get (storage o t) x)
  item_alone o x lt =
      let p = has_place o (row_count t) (col_count t) x (omega (arith, length-storage o t h)) in
      let lc : p.c < col_count padded = omega (arith, p.lc, cols_padded) in
      let below = skip_below i k (row_count t) p.r p.lr in (
        place o (row_count padded) (col_count padded) (skip i k p.r) p.c,
        alone_at padded table_padded i k (row_count t) alone_padded some le rows_padded o p.r p.c p.lr lc,
        get-storage o padded (skip i k p.r) p.c table_padded (omega (arith, rows_padded)) lc
            ∙ (ap (λ v. slice_get v p.c) (row_old p.r)
            ∙ (sym (get-storage o t p.r p.c h p.lr p.lc) ∙ ap (slice_get (storage o t)) p.is)),
      )

  pub padded_is_least : (o : Order) → IsLeast (rows_added_shift o (row_count t) (col_count t) i k) (filled_up d (length (storage o padded)) (storage o t)) (storage o padded)
  padded_is_least o =
      let cost : rows_taken_shift o (row_count padded) (col_count padded) i k ≡ rows_added_shift o (row_count t) (col_count t) i k =
      ap (λ m. rows_taken_shift o m (col_count padded) i k) rows_padded
      ∙ (ap (λ n. rows_taken_shift o (row_count t + k) n i k) cols_padded ∙ shift-taken o (row_count t) (col_count t) i k some) in
      let size : row_count padded * col_count padded ≡ (row_count t + k) * col_count t =
      ap (λ m. m * col_count padded) rows_padded ∙ ap (λ n. (row_count t + k) * n) cols_padded in
      filled_is_least d (storage o padded) (storage o t)
      (omega (arith, length-storage o t h, length-storage o padded table_padded)) (item_is o) (item_alone o)
      (rows_added_shift o (row_count t) (col_count t) i k)
      (subst (λ x. IsLeast x (storage o padded) (storage o t)) cost
      (subst (λ w. IsLeast (rows_taken_shift o (row_count padded) (col_count padded) i k) (storage o padded) (storage o w)) taken_back
      (taken_is_least padded table_padded i k (row_count t) alone_padded some le rows_padded o)))
