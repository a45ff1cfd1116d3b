-- A part of a grid that takes the cells of another.
use Rattle.std.proofs.Common.{subst, ◌≡◌, ◌≢◌, ◌⊎◌, ℕ, ℤ, ◌+◌, ◌-◌, ◌*◌, ◌<◌, ◌≤◌, Bool, true, false, Option, Some, None, List, [], if◌then◌else◌, refl, sym, ◌∙◌, ap, arith, inl, inr, ⊎_elim, pos, IsSome, MatchOption, Decides, Bor, lt-ltb, le-ltb}
use Rattle.grid.proofs.Common.{option_or, nat_tests, cases_lt, cases_eq, mul-le, row_count, col_count, cell, tabulate, with_cell, InRange, IsTable, GridValue, IsFull, IsFull-cells, tabulate-cells, tabulate-same, cell-tabulate, cell_past_rows, past_cols, cell-with_same, cell-with_other, sub_table, HasSize, EachCellIs, InRows, PartTaken, in_part, counted_from, cell_of, overlaid, IsClipped, IsWithin, CellUpdated, CellsUpdated, PartUpdated, part_filled}
use Rattle.grid.proofs.FromViewLemmas.{part_size}

-- a cell that a table hasn't
pub cell_outside : {T : Type 0} (u : List (List T)) → IsTable u → (r c : ℕ) → (row_count u ≤ r) ⊎ (col_count u ≤ c) → cell u r c ≡ None
cell_outside u h r c out =
    ⊎_elim (λ ge. cell_past_rows u r c ge) (λ ge. past_cols u h r c ge) out

or_some : {T : Type 0} (o p : Option T) → IsSome o → option_or o p ≡ o
or_some None p h = absurd (cc)
or_some (Some x) p h = refl

-- a table by its cells
table_is : {T : Type 0} (t : List (List T)) (m n : ℕ) (f : ℕ → ℕ → Option T) → IsTable t → row_count t ≡ m → col_count t ≡ n → ((r c : ℕ) → r < m → c < n → cell t r c ≡ f r c) → t ≡ tabulate m n f
table_is t m n f h rows cols cells =
    let full : IsFull m n (cell t) = record { full = λ r c lr lc. (IsFull-cells t h).full r c (omega (arith, lr, rows)) (omega (arith, lc, cols)) } in
    sym (tabulate-cells t h) ∙ (ap (λ x. tabulate x (col_count t) (cell t)) rows ∙ (ap (λ x. tabulate m x (cell t)) cols ∙ sym (tabulate-same m n f (cell t) (λ r c lr lc. sym (cells r c lr lc)) full)))

-- counted from a number on
pub counted_before : (a i : ℕ) → i < a → counted_from (pos a) i ≡ None
counted_before a i lt = rw (lt-ltb i a lt) refl

pub counted_after : (a k : ℕ) → counted_from (pos a) (a + k) ≡ Some k
counted_after a k =
    let same : a + k - a ≡ k = omega arith in
    rw (le-ltb (a + k) a (omega arith)) (ap Some same)

module _ {T : Type 0} (at : ℕ × ℕ) where
  -- the table that has the cells of a part, given by a formula
  module _ (m n : ℕ) (to from new left : GridValue T) (h : PartTaken (InRows m n) at to from new left) (f : ℕ → ℕ → Option T) (inside : (r c : ℕ) → r < m → c < n → cell from.rows r c ≡ f (at.0 + r) (at.1 + c)) (beyond : (r c : ℕ) → (m ≤ r) ⊎ (n ≤ c) → cell to.rows (at.0 + r) (at.1 + c) ≡ f (at.0 + r) (at.1 + c)) (before : (i j : ℕ) → (i < at.0) ⊎ (j < at.1) → cell to.rows i j ≡ f i j) where
    cell_from : (r c : ℕ) → cell new.rows (at.0 + r) (at.1 + c) ≡ f (at.0 + r) (at.1 + c)
    cell_from r c =
        ⊎_elim (λ lr. ⊎_elim (λ lc. h.taken r c (lr, lc) ∙ inside r c lr lc)
        (λ gc. h.others r c (λ p. omega (arith, gc, p.1)) ∙ beyond r c (inr gc)) (cases_lt c n))
        (λ gr. h.others r c (λ p. omega (arith, gr, p.0)) ∙ beyond r c (inl gr)) (cases_lt r m)

    cell_is : (i j : ℕ) → cell new.rows i j ≡ f i j
    cell_is i j =
        ⊎_elim (λ b. h.before i j (inl b) ∙ before i j (inl b))
        (λ ge. ⊎_elim (λ b. h.before i j (inr b) ∙ before i j (inr b))
        (λ gf.
        let row_at : i ≡ at.0 + (i - at.0) = omega (arith, ge) in
        let col_at : j ≡ at.1 + (j - at.1) = omega (arith, gf) in
        ap (λ x. cell new.rows x j) row_at
        ∙ (ap (λ y. cell new.rows (at.0 + (i - at.0)) y) col_at
        ∙ (cell_from (i - at.0) (j - at.1) ∙ sym (ap (λ x. f x j) row_at ∙ ap (λ y. f (at.0 + (i - at.0)) y) col_at))))
        (cases_lt j at.1)) (cases_lt i at.0)

    pub part_written : new.rows ≡ tabulate (row_count to.rows) (col_count to.rows) f
    part_written = table_is new.rows (row_count to.rows) (col_count to.rows) f new.table h.rows h.cols (λ r c lr lc. cell_is r c)

  -- another table over it
  module _ (u t : List (List T)) (h : IsTable u) where
    abbrev over : ℕ → ℕ → Option T
    over i j = option_or (cell_of u (counted_from (pos at.0) i) (counted_from (pos at.1) j)) (cell t i j)

    over_from : (r c : ℕ) → over (at.0 + r) (at.1 + c) ≡ option_or (cell u r c) (cell t (at.0 + r) (at.1 + c))
    over_from r c = rw (counted_after at.0 r, counted_after at.1 c) refl

    over_before : (i j : ℕ) → (i < at.0) ⊎ (j < at.1) → cell t i j ≡ over i j
    over_before i j b = ⊎_elim (λ lt. sym (rw (counted_before at.0 i lt) refl)) (λ lt. sym (no_col (counted_from (pos at.0) i) lt)) b
      where
        no_col : (r : Option ℕ) → j < at.1 → option_or (cell_of u r (counted_from (pos at.1) j)) (cell t i j) ≡ cell t i j
        no_col None lt = refl
        no_col (Some r) lt = rw (counted_before at.1 j lt) refl

    pub pasted : (m n : ℕ) (to from new left : GridValue T) → m ≡ row_count from.rows → n ≡ col_count from.rows → from.rows ≡ u → to.rows ≡ t → PartTaken (InRows m n) at to from new left → new.rows ≡ overlaid (pos at.0, pos at.1) u t
    pasted m n to from new left rows cols same old p =
        let m_is : m ≡ row_count u = rows ∙ ap row_count same in
        let n_is : n ≡ col_count u = cols ∙ ap col_count same in
        part_written m n to from new left p over
        (λ r c lr lc. ap (λ x. cell x r c) same ∙ sym (over_from r c ∙ or_some (cell u r c) (cell t (at.0 + r) (at.1 + c)) ((IsFull-cells u h).full r c (omega (arith, lr, m_is)) (omega (arith, lc, n_is)))))
        (λ r c out. ap (λ x. cell x (at.0 + r) (at.1 + c)) old ∙ sym (over_from r c ∙ ap (λ o. option_or o (cell t (at.0 + r) (at.1 + c))) (cell_outside u h r c (⊎_elim {C = (row_count u ≤ r) ⊎ (col_count u ≤ c)} (λ x. inl (omega (arith, x, m_is))) (λ x. inr (omega (arith, x, n_is))) out))))
        (λ i j b. ap (λ x. cell x i j) old ∙ over_before i j b)
        ∙ ap (λ x. tabulate (row_count x) (col_count x) over) old

-- a row, or a column, that a table hasn't
row_missing : {T : Type 0} (u : List (List T)) (r c : Option ℕ) → IsTable u → ((k : ℕ) → r ≡ Some k → row_count u ≤ k) → cell_of u r c ≡ None
row_missing u None c h out = refl
row_missing u (Some r) None h out = refl
row_missing u (Some r) (Some c) h out = cell_outside u h r c (inl (out r refl))

col_missing : {T : Type 0} (u : List (List T)) (r c : Option ℕ) → IsTable u → ((k : ℕ) → c ≡ Some k → col_count u ≤ k) → cell_of u r c ≡ None
col_missing u None c h out = refl
col_missing u (Some r) None h out = refl
col_missing u (Some r) (Some c) h out = cell_outside u h r c (inr (out c refl))

counted_as : (a i k : ℕ) → counted_from (pos a) i ≡ Some k → (a ≤ i) × (a + k ≡ i)
counted_as a i k e =
    ⊎_elim {C = (a ≤ i) × (a + k ≡ i)} (λ lt. let none = counted_before a i lt in absurd (cc))
    (λ ge.
    let after = counted_after a (i - a) in
    let i_is : a + (i - a) ≡ i = omega (arith, ge) in
    let some : counted_from (pos a) i ≡ Some (i - a) = ap (counted_from (pos a)) (sym i_is) ∙ after in
    let same : i - a ≡ k = cc in
    (ge, omega (arith, ge, same)))
    (cases_lt i a)

or_full : {T : Type 0} (o p : Option T) → IsSome p → IsSome (option_or o p)
or_full None p h = h
or_full (Some x) p h = refl

pub clipped_as : (at at' : ℤ) (len len' limit limit' skipped start count : ℕ) → at ≡ at' → len ≡ len' → limit ≡ limit' → IsClipped at len limit skipped start count → IsClipped at' len' limit' skipped start count
clipped_as at at' len len' limit limit' skipped start count d e f h =
    subst (λ x. IsClipped x len' limit' skipped start count) d (subst (λ x. IsClipped at x limit' skipped start count) e (subst (λ x. IsClipped at len x skipped start count) f h))

-- what a write at a position in range leaves
pub set_wrote : {T : Type 0} (o : Option T) (P Q R : Type 0) → R → MatchOption o (R → ⊥) (λ _. R) → MatchOption o P (λ _. Q) → Q
set_wrote None P Q R r out w = absurd (out r)
set_wrote (Some x) P Q R r out w = w

-- a part of a table over another, where the rest is outside
module _ {T : Type 0} (at : ℤ × ℤ) (u t p : List (List T)) (hu : IsTable u) (ht : IsTable t) (hp : IsTable p) (from place count : ℕ × ℕ) (rows : IsClipped at.0 (row_count u) (row_count t) from.0 place.0 count.0) (cols : IsClipped at.1 (col_count u) (col_count t) from.1 place.1 count.1) (part : 0 < count.0 → 0 < count.1 → p ≡ sub_table u from count) (none : (count.0 ≡ 0) ⊎ (count.1 ≡ 0) → p ≡ []) where
  size : HasSize count.0 count.1 p
  size = part_size u p from count hu rows.of_line cols.of_line part none

  pub clipped_within : (row_count p ≤ count.0) × (col_count p ≤ count.1)
  clipped_within = ⊎_elim {C = (row_count p ≤ count.0) × (col_count p ≤ count.1)} (λ z. let e = size.none z in (omega (arith, ap row_count e), omega (arith, ap col_count e)))
      (λ some. (omega (arith, size.rows some), omega (arith, size.cols some))) (cases_eq (count.0 * count.1) 0)

  abbrev small : ℕ → ℕ → Option T
  small i j = cell_of p (counted_from (pos place.0) i) (counted_from (pos place.1) j)

  abbrev large : ℕ → ℕ → Option T
  large i j = cell_of u (counted_from at.0 i) (counted_from at.1 j)

  covered : (r c : ℕ) → r < count.0 → c < count.1 → small (place.0 + r) (place.1 + c) ≡ large (place.0 + r) (place.1 + c)
  covered r c lr lc =
      let full : IsFull count.0 count.1 (λ i j. cell u (from.0 + i) (from.1 + j)) = record { full = λ i j li lj. (IsFull-cells u hu).full (from.0 + i) (from.1 + j) (omega (arith, li, rows.of_line)) (omega (arith, lj, cols.of_line)) } in
      rw (counted_after place.0 r, counted_after place.1 c, rows.covered r lr, cols.covered c lc)
      (ap (λ x. cell x r c) (part (omega (arith, lr)) (omega (arith, lc))) ∙ cell-tabulate count.0 count.1 _ r c full lr lc)

  row_outside : (i j : ℕ) → i < row_count t → (i < place.0) ⊎ (place.0 + count.0 ≤ i) → small i j ≡ large i j
  row_outside i j li out =
      row_missing p _ _ hp (λ k e. let at_k = counted_as place.0 i k e in ⊎_elim {C = row_count p ≤ k} (λ b. absurd (omega (arith, b, at_k.0))) (λ a. omega (arith, a, at_k.1, clipped_within.0)) out)
      ∙ sym (row_missing u _ _ hu (λ k e. rows.others i k li out e))

  col_outside : (i j : ℕ) → j < col_count t → (j < place.1) ⊎ (place.1 + count.1 ≤ j) → small i j ≡ large i j
  col_outside i j lj out =
      col_missing p _ _ hp (λ k e. let at_k = counted_as place.1 j k e in ⊎_elim {C = col_count p ≤ k} (λ b. absurd (omega (arith, b, at_k.0))) (λ a. omega (arith, a, at_k.1, clipped_within.1)) out)
      ∙ sym (col_missing u _ _ hu (λ k e. cols.others j k lj out e))

  same_over : (i j : ℕ) → i < row_count t → j < col_count t → small i j ≡ large i j
  same_over i j li lj =
      ⊎_elim (λ b. row_outside i j li (inl b))
      (λ gi. ⊎_elim (λ b. col_outside i j lj (inl b))
      (λ gj. ⊎_elim (λ lr. ⊎_elim (λ lc.
      let row_at : place.0 + (i - place.0) ≡ i = omega (arith, gi) in
      let col_at : place.1 + (j - place.1) ≡ j = omega (arith, gj) in
      ap (λ x. small x j) (sym row_at) ∙ (ap (λ y. small (place.0 + (i - place.0)) y) (sym col_at)
      ∙ (covered (i - place.0) (j - place.1) lr lc ∙ (ap (λ y. large (place.0 + (i - place.0)) y) col_at ∙ ap (λ x. large x j) row_at))))
      (λ past. col_outside i j lj (inr (omega (arith, past, gj)))) (cases_lt (j - place.1) count.1))
      (λ past. row_outside i j li (inr (omega (arith, past, gi)))) (cases_lt (i - place.0) count.0))
      (cases_lt j place.1)) (cases_lt i place.0)

  pub pasted_clipped : overlaid (pos place.0, pos place.1) p t ≡ overlaid at u t
  pasted_clipped = tabulate-same (row_count t) (col_count t) _ _ (λ i j li lj. ap (λ o. option_or o (cell t i j)) (same_over i j li lj))
      (record { full = λ i j li lj. or_full (large i j) (cell t i j) ((IsFull-cells t ht).full i j li lj) })

module _ {T : Type 0} (returns : ℕ × ℕ → Bor T → T → Type 0) where
  pub updated_none : (P : ℕ → ℕ → Type 0) (g : GridValue T) → ((i j : ℕ) → P i j → ⊥) → CellsUpdated P returns g g
  updated_none P g none = record { order = refl; rows = refl; cols = refl; updated = λ i j p. absurd (none i j p); others = λ i j p. refl }

  -- first the cells where P says, then those where Q says
  updated_both : (P Q R : ℕ → ℕ → Type 0) (old mid new : GridValue T) → ((i j : ℕ) → R i j → P i j ⊎ Q i j) → ((i j : ℕ) → P i j → R i j) → ((i j : ℕ) → Q i j → R i j) → ((i j : ℕ) → P i j → Q i j → ⊥) → CellsUpdated P returns old mid → CellsUpdated Q returns mid new → CellsUpdated R returns old new
  updated_both P Q R old mid new either first second apart p q =
      record {
        order = q.order ∙ p.order;
        rows = q.rows ∙ p.rows;
        cols = q.cols ∙ p.cols;
        updated = λ i j r.
            ⊎_elim {C = CellUpdated returns old.rows new.rows i j}
            (λ a. let u = p.updated i j a in record { p = u.p; y = u.y; was = u.was; gave = u.gave; is = q.others i j (λ b. apart i j a b) ∙ u.is })
            (λ b. let u = q.updated i j b in record { p = u.p; y = u.y; was = sym (p.others i j (λ a. apart i j a b)) ∙ u.was; gave = u.gave; is = u.is })
            (either i j r);
        others = λ i j r. q.others i j (λ b. r (second i j b)) ∙ p.others i j (λ a. r (first i j a));
      }

  -- one more column of a row, and one more row
  pub updated_col : (r c k : ℕ) (old mid new : GridValue T) → c ≤ k → CellsUpdated (IsWithin r (r + 1) c k) returns old mid → CellsUpdated (IsWithin r (r + 1) k (k + 1)) returns mid new → CellsUpdated (IsWithin r (r + 1) c (k + 1)) returns old new
  updated_col r c k old mid new le p q =
      updated_both (IsWithin r (r + 1) c k) (IsWithin r (r + 1) k (k + 1)) (IsWithin r (r + 1) c (k + 1)) old mid new
      (λ i j h. ⊎_elim {C = IsWithin r (r + 1) c k i j ⊎ IsWithin r (r + 1) k (k + 1) i j}
      (λ lt. inl (record { row_from = h.row_from; row_before = h.row_before; col_from = h.col_from; col_before = lt }))
      (λ ge. inr (record { row_from = h.row_from; row_before = h.row_before; col_from = ge; col_before = h.col_before })) (cases_lt j k))
      (λ i j h. record { row_from = h.row_from; row_before = h.row_before; col_from = h.col_from; col_before = omega (arith, h.col_before) })
      (λ i j h. record { row_from = h.row_from; row_before = h.row_before; col_from = omega (arith, h.col_from, le); col_before = h.col_before })
      (λ i j a b. omega (arith, a.col_before, b.col_from)) p q

  pub updated_row : (a k c d : ℕ) (old mid new : GridValue T) → a ≤ k → CellsUpdated (IsWithin a k c d) returns old mid → CellsUpdated (IsWithin k (k + 1) c d) returns mid new → CellsUpdated (IsWithin a (k + 1) c d) returns old new
  updated_row a k c d old mid new le p q =
      updated_both (IsWithin a k c d) (IsWithin k (k + 1) c d) (IsWithin a (k + 1) c d) old mid new
      (λ i j h. ⊎_elim {C = IsWithin a k c d i j ⊎ IsWithin k (k + 1) c d i j}
      (λ lt. inl (record { row_from = h.row_from; row_before = lt; col_from = h.col_from; col_before = h.col_before }))
      (λ ge. inr (record { row_from = ge; row_before = h.row_before; col_from = h.col_from; col_before = h.col_before })) (cases_lt i k))
      (λ i j h. record { row_from = h.row_from; row_before = omega (arith, h.row_before); col_from = h.col_from; col_before = h.col_before })
      (λ i j h. record { row_from = omega (arith, h.row_from, le); row_before = h.row_before; col_from = h.col_from; col_before = h.col_before })
      (λ i j x y. omega (arith, x.row_before, y.row_from)) p q

  -- one cell
  pub updated_cell : (r c : ℕ) (p : Bor T) (y : T) (old new : GridValue T) → InRange old.rows r c → cell old.rows r c ≡ Some p.now → returns (r, c) p y → new.rows ≡ with_cell old.rows r c y → new.order ≡ old.order → row_count new.rows ≡ row_count old.rows → col_count new.rows ≡ col_count old.rows → CellsUpdated (IsWithin r (r + 1) c (c + 1)) returns old new
  updated_cell r c p y old new lt was gave is order rows cols =
      record {
        order = order;
        rows = rows;
        cols = cols;
        updated = λ i j h.
            let Made : ℕ → ℕ → Type 0 = λ x z. CellUpdated returns old.rows new.rows x z in
            let here : Made r c = record { p = p; y = y; was = was; gave = gave; is = ap (λ t. cell t r c) is ∙ cell-with_same old.rows old.table r c y lt.0 lt.1 } in
            let row_is : r ≡ i = omega (arith, h.row_from, h.row_before) in
            let col_is : c ≡ j = omega (arith, h.col_from, h.col_before) in
            subst (λ x. Made x j) row_is (subst (λ z. Made r z) col_is here);
        others = λ i j out.
            ap (λ t. cell t i j) is
            ∙ cell-with_other old.rows r c y i j (λ e f. out (record { row_from = omega (arith, e); row_before = omega (arith, e); col_from = omega (arith, f); col_before = omega (arith, f) }));
      }

-- the test of a part
pub in_part_within : (at size : ℕ × ℕ) (i j : ℕ) → Decides (in_part at size i j) (IsWithin at.0 (at.0 + size.0) at.1 (at.1 + size.1) i j)
in_part_within at size i j = grind (arith, nat_tests)

by_test : {X : Type 0} (b : Bool) (W : Type 0) (x y z : X) → Decides b W → (W → x ≡ y) → ((W → ⊥) → x ≡ z) → x ≡ (if b then y else z)
by_test true W x y z d inside outside = inside (d.0 refl)
by_test false W x y z d inside outside = outside (λ w. let t = d.1 w in absurd (cc))

-- the table that has a value in a part
pub filled_part : {T : Type 0} (at size : ℕ × ℕ) (w : T) (m n : ℕ) (to from new left : GridValue T) → m ≡ row_count from.rows → n ≡ col_count from.rows → HasSize size.0 size.1 from.rows → EachCellIs w from.rows → PartTaken (InRows m n) at to from new left → new.rows ≡ part_filled at size w to.rows
filled_part {T} at size w m n to from new left rows cols has each p =
    part_written at m n to from new left p (λ i j. if in_part at size i j then Some w else cell to.rows i j)
    (λ r c lr lc. by_test (in_part at size (at.0 + r) (at.1 + c)) _ _ _ _ (in_part_within at size (at.0 + r) (at.1 + c)) (λ h. each r c (omega (arith, lr, rows), omega (arith, lc, cols)))
    (λ out. absurd (out (record { row_from = omega arith; row_before = omega (arith, lr, (least r c lr lc).0); col_from = omega arith; col_before = omega (arith, lc, (least r c lr lc).1) }))))
    (λ r c past. by_test (in_part at size (at.0 + r) (at.1 + c)) _ _ _ _ (in_part_within at size (at.0 + r) (at.1 + c)) (λ h. absurd (not_past r c h past)) (λ out. refl))
    (λ i j b. by_test (in_part at size i j) _ _ _ _ (in_part_within at size i j) (λ h. absurd (⊎_elim {C = ⊥} (λ x. omega (arith, x, h.row_from)) (λ x. omega (arith, x, h.col_from)) b)) (λ out. refl))
  where
    -- where there are cells, the sizes are those of the part
    least : (r c : ℕ) → r < m → c < n → (row_count from.rows ≤ size.0) × (col_count from.rows ≤ size.1)
    least r c lr lc =
        ⊎_elim {C = (row_count from.rows ≤ size.0) × (col_count from.rows ≤ size.1)} (λ z. absurd (omega (arith, lr, rows, ap row_count (has.none z)))) (λ some. (omega (arith, has.rows some), omega (arith, has.cols some)))
        (cases_eq (size.0 * size.1) 0)

    not_past : (r c : ℕ) → IsWithin at.0 (at.0 + size.0) at.1 (at.1 + size.1) (at.0 + r) (at.1 + c) → (m ≤ r) ⊎ (n ≤ c) → ⊥
    not_past r c h past =
        let some : size.0 * size.1 ≢ 0 = λ z. omega (arith, z, mul-le 1 1 size.0 size.1 (omega (arith, h.row_before)) (omega (arith, h.col_before))) in
        ⊎_elim {C = ⊥} (λ x. omega (arith, x, h.row_before, rows, has.rows some)) (λ x. omega (arith, x, h.col_before, cols, has.cols some)) past

-- the table of which a part is updated
pub updated_part : {F T : Type 0} (returns : F → ℕ × ℕ → Bor T → T → Type 0) (f : F) (at size : ℕ × ℕ) (old new : GridValue T) → CellsUpdated (IsWithin at.0 (at.0 + size.0) at.1 (at.1 + size.1)) (returns f) old new → PartUpdated f at size old.rows returns new.rows
updated_part returns f at size old new p =
    λ h gives. table_is new.rows (row_count old.rows) (col_count old.rows) _ new.table p.rows p.cols
    (λ r c lr lc. by_test (in_part at size r c) _ _ _ _ (in_part_within at size r c)
    (λ w. let u = p.updated r c w in u.is ∙ sym (gives r c u.p u.y ((in_part_within at size r c).1 w) (lr, lc) u.was u.gave))
    (λ out. p.others r c out))
