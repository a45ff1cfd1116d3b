-- The cells of a row across the storage come to its front, are rewritten there, and go back.
use Rattle.std.proofs.Common.{◌≡◌, ◌≢◌, ℕ, zero, suc, ◌+◌, ◌-◌, ◌*◌, ◌<◌, ◌≤◌, List, length, drop, set, inl, inr, refl, sym, ap, ◌∙◌, arith, ⊎_elim, length-append, length-drop, mul-le-mul_right, mul-le-mul_left, slice_get, swap, length-take}
use Rattle.grid_base.proofs.Common.{cases_lt, eqb_tells, length-swap, mid_of, put_mid, HoldsSize, table_of, row}
use Rattle.grid_base.specs.declared.order.Order.TheVariants.{ColumnMajor}
use Rattle.grid_base.proofs.StorageLemmas.{width-table_of, get-take, get-drop, get_append_left, get_append_right}
use Rattle.grid_base.proofs.SwapLemmas.{get-swap_first, get-swap_second, get-swap_other}
use Rattle.grid_base.proofs.TableLemmas.{same_cells}
use Rattle.grid_base.proofs.ViewLemmas.{view-cell}
use Rattle.grid_base.proofs.WriteLemmas.{same_place}
use Rattle.grid_lines.proofs.RewriteLemmas.{row_rewritten}
use Rattle.grid_lines.specs.Brought.{brought, taken_back}

module _ (m n r : ℕ) (lr : r < m) where
  -- the places of the row: each is at or after the place at the front, and they differ
  pub behind_front : (c : ℕ) → c ≤ c * m + r
  behind_front c = let w : c * 1 ≤ c * m = mul-le-mul_left c (omega arith) in omega (arith, w)

  pub place_in : (c : ℕ) → c < n → c * m + r < m * n
  place_in c lt = let w : (c + 1) * m ≤ n * m = mul-le-mul_right m (omega arith) in omega (arith, w)

  rising : (b c : ℕ) → b < c → b * m + r < c * m + r
  rising b c lt = let w : (b + 1) * m ≤ c * m = mul-le-mul_right m (omega arith) in omega (arith, w)

  differ : (b c : ℕ) → b ≢ c → b * m + r ≢ c * m + r
  differ b c ne e = elim (eqb_tells b c) [
    | inl x ↦ ne x.1
    | inr x ↦ ⊎_elim (λ lt. let w = rising b c lt in omega (arith, w, e)) (λ ge. let w = rising c b (omega (arith, x.1)) in omega (arith, w, e)) (cases_lt b c)
  ]

module _ {T : Type 0} (m n r : ℕ) (lr : r < m) where
  pub length-brought : (k : ℕ) (xs : List T) → length (brought m r k xs) ≡ length xs
  length-brought zero xs = refl
  length-brought (suc k) xs = length-swap (brought m r k xs) k (k * m + r) ∙ length-brought k xs

  pub length-taken_back : (k : ℕ) (xs : List T) → length (taken_back m r k xs) ≡ length xs
  length-taken_back zero xs = refl
  length-taken_back (suc k) xs = length-taken_back k (swap xs k (k * m + r)) ∙ length-swap xs k (k * m + r)

  module _ (xs : List T) (size : length xs ≡ m * n) where
    -- a swap of the k-th cell, and what it leaves
    first_is : (k : ℕ) → k < n → (zs : List T) → length zs ≡ length xs → slice_get (swap zs k (k * m + r)) k ≡ slice_get zs (k * m + r)
    first_is k lt zs len = let p = place_in m n r lr k lt in get-swap_first zs k (k * m + r) (omega (arith, p, behind_front m n r lr k)) (omega (arith, p))

    second_is : (k : ℕ) → k < n → (zs : List T) → length zs ≡ length xs → slice_get (swap zs k (k * m + r)) (k * m + r) ≡ slice_get zs k
    second_is k lt zs len = let p = place_in m n r lr k lt in get-swap_second zs k (k * m + r) (omega (arith, p, behind_front m n r lr k)) (omega (arith, p))

    other_is : (k j : ℕ) → k < n → (zs : List T) → length zs ≡ length xs → j ≢ k → j ≢ k * m + r → slice_get (swap zs k (k * m + r)) j ≡ slice_get zs j
    other_is k j lt zs len u v = let p = place_in m n r lr k lt in get-swap_other zs k (k * m + r) j (omega (arith, p, behind_front m n r lr k)) (omega (arith, p)) u v

    -- no cell from the k-th place on that is not in the row before cell k has moved
    pub not_moved : (k j : ℕ) → k ≤ n → k ≤ j → ((c : ℕ) → c < k → j ≢ c * m + r) → slice_get (brought m r k xs) j ≡ slice_get xs j
    not_moved zero j le ge off = refl
    not_moved (suc k) j le ge off =
        other_is k j (omega arith) (brought m r k xs) (length-brought k xs) (λ e. absurd (omega arith)) (off k (omega arith))
        ∙ not_moved k j (omega arith) (omega arith) (λ c lt. off c (omega arith))

    -- the first k cells are those of the row
    pub come_first : (k c : ℕ) → k ≤ n → c < k → slice_get (brought m r k xs) c ≡ slice_get xs (c * m + r)
    come_first zero c le lt = absurd (omega arith)
    come_first (suc k) c le lt = elim (eqb_tells c k) [
      | inl e ↦
          ap (slice_get (brought m r (suc k) xs)) e.1
          ∙ (first_is k (omega arith) (brought m r k xs) (length-brought k xs)
          ∙ (not_moved k (k * m + r) (omega arith) (behind_front m n r lr k) (λ b low same. differ m n r lr k b (λ x. absurd (omega arith)) same)
          ∙ ap (λ x. slice_get xs (x * m + r)) (sym e.1)))
      | inr e ↦
          other_is k c (omega arith) (brought m r k xs) (length-brought k xs) e.1 (λ x. let b = behind_front m n r lr k in absurd (omega (arith, b, x, e.1)))
          ∙ come_first k c (omega arith) (omega (arith, e.1))
    ]

    -- ws is what was brought, but for the first k cells and the row from cell k on
    abbrev pub IsLeft : ℕ → List T → Type 0
    IsLeft k ws = (j : ℕ) → k ≤ j → ((c : ℕ) → k ≤ c → c < n → j ≢ c * m + r) → slice_get ws j ≡ slice_get (brought m r k xs) j

    left_less : (k : ℕ) (ws : List T) → k < n → length ws ≡ length xs → IsLeft (suc k) ws → IsLeft k (swap ws k (k * m + r))
    left_less k ws lt len left = λ j ge off. elim (eqb_tells j k) [
      | inl e ↦
          let p : k ≢ k * m + r = λ x. off k (omega arith) lt (e.1 ∙ x) in
          ap (slice_get (swap ws k (k * m + r))) e.1
          ∙ (first_is k lt ws len
          ∙ (left (k * m + r) (let b = behind_front m n r lr k in omega (arith, b, p)) (λ c low high. differ m n r lr k c (λ x. absurd (omega arith)))
          ∙ (second_is k lt (brought m r k xs) (length-brought k xs) ∙ ap (slice_get (brought m r k xs)) (sym e.1))))
      | inr e ↦
          let far : j ≢ k * m + r = off k (omega arith) lt in
          other_is k j lt ws len e.1 far
          ∙ (left j (omega (arith, e.1)) (λ c low high. off c (omega arith) high) ∙ other_is k j lt (brought m r k xs) (length-brought k xs) e.1 far)
    ]

    -- the cells of the row from the k-th on stay
    stays : (k c : ℕ) (ws : List T) → k ≤ n → length ws ≡ length xs → k ≤ c → c < n → slice_get (taken_back m r k ws) (c * m + r) ≡ slice_get ws (c * m + r)
    stays zero c ws le len ge lt = refl
    stays (suc k) c ws le len ge lt =
        stays k c (swap ws k (k * m + r)) (omega arith) (length-swap ws k (k * m + r) ∙ len) (omega arith) lt
        ∙ other_is k (c * m + r) (omega arith) ws len (λ x. let b = behind_front m n r lr c in absurd (omega (arith, b, x))) (differ m n r lr c k (λ x. absurd (omega arith)))

    -- the first k cells go to the row
    pub goes_back : (k c : ℕ) (ws : List T) → k ≤ n → length ws ≡ length xs → c < k → slice_get (taken_back m r k ws) (c * m + r) ≡ slice_get ws c
    goes_back zero c ws le len lt = absurd (omega arith)
    goes_back (suc k) c ws le len lt = elim (eqb_tells c k) [
      | inl e ↦
          stays k c (swap ws k (k * m + r)) (omega arith) (length-swap ws k (k * m + r) ∙ len) (omega (arith, e.1)) (omega arith)
          ∙ (ap (λ x. slice_get (swap ws k (k * m + r)) (x * m + r)) e.1 ∙ (second_is k (omega arith) ws len ∙ ap (slice_get ws) (sym e.1)))
      | inr e ↦
          goes_back k c (swap ws k (k * m + r)) (omega arith) (length-swap ws k (k * m + r) ∙ len) (omega (arith, e.1))
          ∙ other_is k c (omega arith) ws len e.1 (λ x. let b = behind_front m n r lr k in absurd (omega (arith, b, x, e.1)))
    ]

    -- and no other cell has changed
    pub back_again : (k j : ℕ) (ws : List T) → k ≤ n → length ws ≡ length xs → IsLeft k ws → ((c : ℕ) → c < n → j ≢ c * m + r) → slice_get (taken_back m r k ws) j ≡ slice_get xs j
    back_again zero j ws le len left off = left j (omega arith) (λ c low high. off c high)
    back_again (suc k) j ws le len left off =
        back_again k j (swap ws k (k * m + r)) (omega arith) (length-swap ws k (k * m + r) ∙ len) (left_less k ws (omega arith) len left) off

-- a row of a column-major table that is rewritten at the front
module _ {T : Type 0} (m n r : ℕ) (cells : List T) (h : HoldsSize m n (length cells)) (lr : r < m) where
  pub front_within : n ≤ length (brought m r n cells)
  front_within = let w : 1 * n ≤ m * n = mul-le-mul_right n (omega arith) in omega (arith, w, h.cells, length-brought m n r lr n cells)

  pub across_wide : length (mid_of 0 n (brought m r n cells)) ≡ n
  across_wide = omega (arith, length-take n (brought m r n cells), front_within)

  pub row_across : mid_of 0 n (brought m r n cells) ≡ row (table_of ColumnMajor m n cells) r
  row_across =
      same_cells _ _ (across_wide ∙ sym (width-table_of ColumnMajor m n cells h.cells r lr)) (λ c lt.
      let lc : c < n = omega (arith, across_wide) in
      get-take n (brought m r n cells) c (omega arith) ∙ (come_first m n r lr cells h.cells n c (omega arith) lc ∙ sym (view-cell ColumnMajor m n cells h r c lr lc)))

  module _ (y : List T) (wide : length y ≡ n) where
    brought_long : length (brought m r n cells) ≡ length cells
    brought_long = length-brought m n r lr n cells

    pub put_long : length (put_mid 0 n (brought m r n cells) y) ≡ length cells
    put_long = omega (arith, length-append y (drop n (brought m r n cells)), length-drop n (brought m r n cells), front_within, wide, brought_long)

    pub across_long : length (taken_back m r n (put_mid 0 n (brought m r n cells) y)) ≡ length cells
    across_long = length-taken_back m n r lr n (put_mid 0 n (brought m r n cells) y) ∙ put_long

    pub across_rewritten : table_of ColumnMajor m n (taken_back m r n (put_mid 0 n (brought m r n cells) y)) ≡ set (table_of ColumnMajor m n cells) r y
    across_rewritten =
        let zs = brought m r n cells in
        let ws = put_mid 0 n (brought m r n cells) y in
        row_rewritten ColumnMajor m n cells (taken_back m r n ws) y r h lr across_long wide
        (λ c lc. goes_back m n r lr cells h.cells n c ws (omega arith) put_long lc ∙ get_append_left y (drop n zs) c (omega (arith, wide)))
        (λ i c li lc ne. back_again m n r lr cells h.cells n (c * m + i) ws (omega arith) put_long
        (λ j ge off. get_append_right y (drop n zs) j (j - n) (omega (arith, wide, ge)) ∙ get-drop n zs j (j - n) (omega (arith, ge)))
        (λ b lb e. ne (same_place ColumnMajor m n i c r b li lc lr lb e).0))
