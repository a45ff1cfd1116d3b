-- A part of a row-major grid that changes places with cells of another, or takes cells, line by line.
use Rattle.std.proofs.Common.{◌≡◌, ◌⊎◌, ℕ, ◌+◌, ◌*◌, ◌^◌, ◌<◌, ◌≤◌, List, ◌++◌, take, drop, length, refl, sym, ◌∙◌, ap, subst, arith, inl, inr, ⊎_elim, mul-le-mul_right, slice_get, [], ◌-◌, append_assoc, append-nil, take-append-drop, length-take-le}
use Rattle.grid.proofs.Common.{cases_lt, cases_eq, take-append_seam, refill, BlockTaken, Woven, GridValue, HoldsSize, table_of, act, row_count, col_count, cell, rows-act, cols-act, view-rows, view-cols, view-cell, view-past_cols, view-past_rows, grid_value, InRow, InRows, PartTaken, RowTaken, factor_small, storage, length-storage, get-storage, get_append_left}
use Rattle.grid_base.specs.declared.order.Order.{Order}
use Rattle.grid_base.specs.declared.order.Order.TheVariants.{RowMajor}
use Rattle.grid_base.specs.declared.words.Symmetry.TheVariants.{Transpose}
use Rattle.grid.proofs.SeenLemmas.{seen_rows, seen_cols}
use Rattle.grid.proofs.ColEditLemmas.{cell-cross}

-- of the rows of n cells, the cells after a stretch of row s
behind : (n s c cols i j : ℕ) → c + cols ≤ n → j < n → (i ≡ s → c ≤ j → c + cols ≤ j) → s * n + c ≤ i * n + j → s * n + c + cols ≤ i * n + j
behind n s c cols i j fits lj out le =
    ⊎_elim {C = s * n + c + cols ≤ i * n + j} (λ (lt : i < s). let below : i + 1 ≤ s = omega arith in absurd (omega (arith, mul-le-mul_right n below)))
    (λ ge. ⊎_elim {C = s * n + c + cols ≤ i * n + j} (λ e. let same : i * n ≡ s * n = ap (λ x. x * n) e in omega (arith, same, out e (omega (arith, same))))
    (λ ne. let above : s + 1 ≤ i = omega arith in omega (arith, mul-le-mul_right n above)) (cases_eq i s))
    (cases_lt i s)

-- a stretch of row s of a row-major grid, from column c on, that is taken from other cells
module _ {T : Type 0} (m n : ℕ) (old new from : List T) (h : HoldsSize m n (length old)) (k : HoldsSize m n (length new)) (s c cols p start : ℕ) (at : start ≡ s * n + c) (fits : c + cols ≤ n) (w : BlockTaken start p cols old from new) where
  stretch_kept : (i j : ℕ) → (i ≡ s → c ≤ j → c + cols ≤ j) → cell (table_of RowMajor m n new) i j ≡ cell (table_of RowMajor m n old) i j
  stretch_kept i j out =
      ⊎_elim (λ li. ⊎_elim
      (λ lj.
      view-cell RowMajor m n new k i j li lj
      ∙ (w.others (i * n + j) (λ le. omega (arith, at, behind n s c cols i j fits lj out (omega (arith, at, le)))) ∙ sym (view-cell RowMajor m n old h i j li lj)))
      (λ past. view-past_cols RowMajor m n new k i j li past ∙ sym (view-past_cols RowMajor m n old h i j li past)) (cases_lt j n))
      (λ past. view-past_rows RowMajor m n new k i j past ∙ sym (view-past_rows RowMajor m n old h i j past)) (cases_lt i m)

  stretch_taken : (x : ℕ) → s < m → x < cols → cell (table_of RowMajor m n new) s (c + x) ≡ slice_get from (p + x)
  stretch_taken x ls lx =
      view-cell RowMajor m n new k s (c + x) ls (omega arith)
      ∙ (ap (slice_get new) (omega (arith, at)) ∙ w.taken x lx)

-- past the first cells of a row
not_first : (row cols i j : ℕ) → (InRow row cols i j → ⊥) → i ≡ row → cols ≤ j
not_first row cols i j out e = ⊎_elim {C = cols ≤ j} (λ lt. absurd (out (e, lt))) (λ ge. ge) (cases_lt j cols)

-- a row that takes cells of a list, of a grid that a contract sees
row_written : {T : Type 0} (m n : ℕ) (old new line : List T) (h : HoldsSize m n (length old)) (k : HoldsSize m n (length new)) (at : ℕ × ℕ) (row p cols : ℕ) → at.0 + row < m → at.1 + cols ≤ n → BlockTaken ((at.0 + row) * n + at.1) p cols old line new → RowTaken row p cols line at (grid_value RowMajor m n old h) (grid_value RowMajor m n new k)
row_written m n old new line h k at row p cols ls fits w from is =
    record {
      order = refl;
      rows = view-rows RowMajor m n new k ∙ sym (view-rows RowMajor m n old h);
      cols = view-cols RowMajor m n new k ∙ sym (view-cols RowMajor m n old h);
      left_order = refl;
      left_rows = refl;
      left_cols = refl;
      taken = λ i j here.
          ap (λ x. cell (table_of RowMajor m n new) (at.0 + x) (at.1 + j)) here.0
          ∙ (stretch_taken m n old new line h k (at.0 + row) at.1 cols p _ refl fits w j ls here.1
          ∙ (is j here.1 ∙ ap (λ x. cell from.rows x j) (sym here.0)));
      others = λ i j out. stretch_kept m n old new line h k (at.0 + row) at.1 cols p _ refl fits w (at.0 + i) (at.1 + j) (λ e le. omega (arith, not_first row cols i j out (omega (arith, e))));
      before = λ i j b. stretch_kept m n old new line h k (at.0 + row) at.1 cols p _ refl fits w i j (λ e le. absurd (⊎_elim {C = ⊥} (λ x. omega (arith, x, e)) (λ x. omega (arith, x, le)) b));
      left_others = λ i j out. refl;
    }

-- the first cells of a row of a grid that are exchanged with those of a row of another
pub row_taken : {T : Type 0} (m n p q : ℕ) (old new from left : List T) (h : HoldsSize m n (length old)) (k : HoldsSize m n (length new)) (f : HoldsSize p q (length from)) (l : HoldsSize p q (length left)) (at : ℕ × ℕ) (row cols : ℕ) → at.0 + row < m → row < p → at.1 + cols ≤ n → cols ≤ q → BlockTaken ((at.0 + row) * n + at.1) (row * q) cols old from new → BlockTaken (row * q) ((at.0 + row) * n + at.1) cols from old left → PartTaken (InRow row cols) at (grid_value RowMajor m n old h) (grid_value RowMajor p q from f) (grid_value RowMajor m n new k) (grid_value RowMajor p q left l)
row_taken m n p q old new from left h k f l at row cols ls lr fits from_fits w v =
    record {
      order = refl;
      rows = view-rows RowMajor m n new k ∙ sym (view-rows RowMajor m n old h);
      cols = view-cols RowMajor m n new k ∙ sym (view-cols RowMajor m n old h);
      left_order = refl;
      left_rows = view-rows RowMajor p q left l ∙ sym (view-rows RowMajor p q from f);
      left_cols = view-cols RowMajor p q left l ∙ sym (view-cols RowMajor p q from f);
      taken = λ i j is.
          ap (λ x. cell (table_of RowMajor m n new) (at.0 + x) (at.1 + j)) is.0
          ∙ (stretch_taken m n old new from h k (at.0 + row) at.1 cols (row * q) _ refl fits w j ls is.1
          ∙ (sym (view-cell RowMajor p q from f row j lr (omega (arith, is.1))) ∙ ap (λ x. cell (table_of RowMajor p q from) x j) (sym is.0)));
      others = λ i j out. stretch_kept m n old new from h k (at.0 + row) at.1 cols (row * q) _ refl fits w (at.0 + i) (at.1 + j) (λ e le. omega (arith, not_first row cols i j out (omega (arith, e))));
      before = λ i j b. stretch_kept m n old new from h k (at.0 + row) at.1 cols (row * q) _ refl fits w i j (λ e le. absurd (⊎_elim {C = ⊥} (λ x. omega (arith, x, e)) (λ x. omega (arith, x, le)) b));
      left_others = λ i j out. stretch_kept p q from left old f l row 0 cols _ (row * q) (omega arith) (omega arith) v i j (λ e le. omega (arith, not_first row cols i j out e));
    }

-- the same, of grids that a contract sees, and that the stretches are within their cells
module _ {T : Type 0} (o : Order) (m n : ℕ) (cells : List T) (h : HoldsSize m n (length cells)) (to : GridValue T) (seen : grid_value o m n cells h ≡ to) (s c cols : ℕ) (row_in : s < row_count to.rows) (col_in : c + cols ≤ col_count to.rows) where
  pub stretch_row : s < m
  stretch_row = omega (arith, row_in, seen_rows o m n cells to h seen)

  pub stretch_cols : c + cols ≤ n
  stretch_cols = omega (arith, col_in, seen_cols o m n cells to h seen)

  pub stretch_within : s * n + c + cols ≤ length cells
  stretch_within =
      let next : s + 1 ≤ m = omega (arith, stretch_row) in
      omega (arith, h.cells, stretch_cols, mul-le-mul_right n next)

  pub stretch_below : (s < 2 ^ 64) × (s * n + c + cols < 2 ^ 64)
  stretch_below =
      let small = factor_small m n (h.size.has_cols (omega (arith, stretch_row))) h.below in
      (omega (arith, small, stretch_row), omega (arith, stretch_within, h.cells, h.below))

pub row_exchanged : {T : Type 0} (o u : Order) (m n p q : ℕ) (old new other left : List T) (h : HoldsSize m n (length old)) (k : HoldsSize m n (length new)) (f : HoldsSize p q (length other)) (l : HoldsSize p q (length left)) (to from : GridValue T) → grid_value o m n old h ≡ to → grid_value u p q other f ≡ from → to.order ≡ RowMajor → from.order ≡ RowMajor → (at : ℕ × ℕ) (row cols : ℕ) → at.0 + row < m → row < p → at.1 + cols ≤ n → cols ≤ q → BlockTaken ((at.0 + row) * n + at.1) (row * q) cols old other new → BlockTaken (row * q) ((at.0 + row) * n + at.1) cols other old left → PartTaken (InRow row cols) at to from (grid_value o m n new k) (grid_value u p q left l)
row_exchanged o u m n p q old new other left h k f l to from seen from_seen order from_order at row cols ls lr fits from_fits w v =
    let o_is : o ≡ RowMajor = ap (λ x. x.order) seen ∙ order in
    let u_is : u ≡ RowMajor = ap (λ x. x.order) from_seen ∙ from_order in
    rw (← seen, ← from_seen, o_is, u_is) (row_taken m n p q old new other left h k f l at row cols ls lr fits from_fits w v)

-- the first s rows of a row-major grid, left in a list from whose end its rows leave
pub record RowsLeft {T : Type 0} (s : ℕ) (from : GridValue T) (cells : List T) : Type 0 where
  pub gone : List T
  pub split : storage RowMajor from.rows ≡ cells ++ gone
  pub size : length cells ≡ s * col_count from.rows

pub rows_left_all : {T : Type 0} (s : ℕ) (from : GridValue T) (cells : List T) → from.order ≡ RowMajor → s ≡ row_count from.rows → cells ≡ storage from.order from.rows → RowsLeft s from cells
rows_left_all s from cells order all is =
    let same : cells ≡ storage RowMajor from.rows = is ∙ ap (λ o. storage o from.rows) order in
    record {
      gone = [];
      split = sym (same) ∙ sym (append-nil cells);
      size = ap length same ∙ (length-storage RowMajor from.rows from.table ∙ ap (λ m. m * col_count from.rows) (sym all));
    }

-- the row that leaves next, and what is left then
module _ {T : Type 0} (s len n : ℕ) (from : GridValue T) (cells : List T) (h : RowsLeft s from cells) (some : 0 < s) (size : len ≡ length cells) (cols : n ≡ col_count from.rows) where
  left_place : len - n ≡ (s - 1) * col_count from.rows
  left_place =
      let before : s ≡ (s - 1) + 1 = omega (arith, some) in
      omega (arith, size, h.size, cols, ap (λ x. x * col_count from.rows) before)

  pub last_row : s ≤ row_count from.rows → (x : ℕ) → x < n → slice_get cells (len - n + x) ≡ cell from.rows (s - 1) x
  last_row le x lx =
      let before : s ≡ (s - 1) + 1 = omega (arith, some) in
      let at : len - n + x < length cells = omega (arith, size, h.size, cols, lx, left_place, ap (λ x. x * col_count from.rows) before) in
      sym (get_append_left cells h.gone (len - n + x) at)
      ∙ (ap (λ ys. slice_get ys (len - n + x)) (sym h.split)
      ∙ (ap (λ p. slice_get (storage RowMajor from.rows) (p + x)) left_place
      ∙ get-storage RowMajor from.rows (s - 1) x from.table (omega (arith, le, some)) (omega (arith, lx, cols))))

  pub row_left : (next : List T) → next ≡ take (len - n) cells → RowsLeft (s - 1) from next
  row_left next is =
      record {
        gone = drop (len - n) cells ++ h.gone;
        split = h.split ∙ (ap (λ ys. ys ++ h.gone) (sym (take-append-drop (len - n) cells)) ∙ (append_assoc (take (len - n) cells) (drop (len - n) cells) h.gone ∙ ap (λ ys. ys ++ (drop (len - n) cells ++ h.gone)) (sym is)));
        size = ap length is ∙ (length-take-le (len - n) cells (omega (arith, size)) ∙ left_place);
      }

-- a position is in the first m rows and n columns, from row s on
abbrev pub RowsFrom : (m n s i j : ℕ) → Type 0
RowsFrom m n s i j = (s ≤ i) × InRows m n i j

-- a grid that has taken those cells: none, and a row more
module _ {T : Type 0} (m n : ℕ) (at : ℕ × ℕ) where
  pub rows_none : (s : ℕ) (to from : GridValue T) → m ≤ s → PartTaken (RowsFrom m n s) at to from to from
  rows_none s to from le =
      record {
        order = refl;
        rows = refl;
        cols = refl;
        left_order = refl;
        left_rows = refl;
        left_cols = refl;
        taken = λ i j h. absurd (omega (arith, h.0, h.1.0, le));
        others = λ i j out. refl;
        before = λ i j b. refl;
        left_others = λ i j out. refl;
      }

  pub rows_more : (s k : ℕ) (to from mid new : GridValue T) → s ≡ k + 1 → s ≤ m → PartTaken (RowsFrom m n s) at to from mid from → PartTaken (InRow k n) at mid from new from → PartTaken (RowsFrom m n k) at to from new from
  rows_more s k to from mid new next le p q =
      record {
        order = q.order ∙ p.order;
        rows = q.rows ∙ p.rows;
        cols = q.cols ∙ p.cols;
        left_order = refl;
        left_rows = refl;
        left_cols = refl;
        taken = λ i j h.
            ⊎_elim (λ e. q.taken i j (e, h.1.1))
            (λ ne. q.others i j (λ r. ne r.0) ∙ p.taken i j (omega (arith, h.0, ne, next), h.1))
            (cases_eq i k);
        others = λ i j out. q.others i j (λ r. out (omega (arith, r.0), (omega (arith, r.0, next, le), r.1))) ∙ p.others i j (λ r. out (omega (arith, r.0, next), r.1));
        before = λ i j b. q.before i j b ∙ p.before i j b;
        left_others = λ i j out. refl;
      }

-- a vector whose cells were all written anew through a slice
pub refilled : {T : Type 0} (xs ws : List T) → length ws ≡ length xs → refill (length xs) xs ws ≡ ws
refilled xs ws e = ap (λ k. take k (ws ++ drop (length ws) xs)) (sym e) ∙ take-append_seam ws (drop (length ws) xs)

-- groups that are woven in a slice of all cells
pub woven_lent : {T : Type 0} (p q i k : ℕ) {xs ys zs : List T} → ys ≡ xs → Woven p q i k ys zs → Woven p q i k xs (refill (length xs) xs zs)
woven_lent p q i k {xs} {ys} {zs} e w =
    let v : Woven p q i k xs zs = rw e at w in
    rw (refilled xs zs v.lengths) v

-- the same, of a grid that a contract sees, whose cells were lent as a slice
pub row_lent : {T : Type 0} (o : Order) (m n : ℕ) (old cells written line : List T) (h : HoldsSize m n (length old)) (k : HoldsSize m n (length (refill (length old) old written))) (to : GridValue T) → grid_value o m n old h ≡ to → to.order ≡ RowMajor → (at : ℕ × ℕ) (row p cols : ℕ) → at.0 + row < m → at.1 + cols ≤ n → cells ≡ old → BlockTaken ((at.0 + row) * n + at.1) p cols cells line written → RowTaken row p cols line at to (grid_value o m n (refill (length old) old written) k)
row_lent o m n old cells written line h k to seen order at row p cols ls fits same w =
    let o_is : o ≡ RowMajor = ap (λ x. x.order) seen ∙ order in
    let start = (at.0 + row) * n + at.1 in
    let all : written ≡ refill (length old) old written = sym (refilled old written (w.length_stays ∙ ap length same)) in
    let taken = subst (λ x. BlockTaken start p cols x line (refill (length old) old written)) same (subst (λ x. BlockTaken start p cols cells line x) all w) in
    rw (← seen, o_is) (row_written m n old (refill (length old) old written) line h k at row p cols ls fits taken)

module _ {T : Type 0} (at : ℕ × ℕ) where
  -- the same between transposes
  pub part_across : (m n : ℕ) (to from new left to' from' new' left' : GridValue T) → to'.rows ≡ act Transpose to.rows → from'.rows ≡ act Transpose from.rows → new.rows ≡ act Transpose new'.rows → left.rows ≡ act Transpose left'.rows → new.order ≡ to.order → left.order ≡ from.order → PartTaken (InRows n m) (at.1, at.0) to' from' new' left' → PartTaken (InRows m n) at to from new left
  part_across m n to from new left to' from' new' left' e f g l order left_order p =
      let crossed : (a b : GridValue T) → a.rows ≡ act Transpose b.rows → (i j : ℕ) → cell a.rows i j ≡ cell b.rows j i = λ a b is i j. ap (λ x. cell x i j) is ∙ cell-cross b.rows b.table i j in
      let heights : (a b : GridValue T) → a.rows ≡ act Transpose b.rows → row_count a.rows ≡ col_count b.rows = λ a b is. ap row_count is ∙ rows-act Transpose b.rows in
      let widths : (a b : GridValue T) → a.rows ≡ act Transpose b.rows → col_count a.rows ≡ row_count b.rows = λ a b is. ap col_count is ∙ cols-act Transpose b.rows b.table in
      record {
        order = order;
        rows = heights new new' g ∙ (p.cols ∙ widths to' to e);
        cols = widths new new' g ∙ (p.rows ∙ heights to' to e);
        left_order = left_order;
        left_rows = heights left left' l ∙ (p.left_cols ∙ widths from' from f);
        left_cols = widths left left' l ∙ (p.left_rows ∙ heights from' from f);
        taken = λ i j h. crossed new new' g (at.0 + i) (at.1 + j) ∙ (p.taken j i (h.1, h.0) ∙ crossed from' from f j i);
        others = λ i j h. crossed new new' g (at.0 + i) (at.1 + j) ∙ (p.others j i (λ b. h (b.1, b.0)) ∙ crossed to' to e (at.1 + j) (at.0 + i));
        before = λ i j b. crossed new new' g i j ∙ (p.before j i (⊎_elim {C = (j < at.1) ⊎ (i < at.0)} (λ x. inr x) (λ x. inl x) b) ∙ crossed to' to e j i);
        left_others = λ i j h. crossed left left' l i j ∙ (p.left_others j i (λ b. h (b.1, b.0)) ∙ crossed from' from f j i);
      }

-- the cells of a part from position (0, 0) on
module _ {T : Type 0} (P : ℕ → ℕ → Type 0) (to from new left : GridValue T) (p : PartTaken P (0, 0) to from new left) (i j : ℕ) where
  from_origin : (t : List (List T)) → cell t i j ≡ cell t (0 + i) (0 + j)
  from_origin t =
      let row : i ≡ 0 + i = omega arith in
      let col : j ≡ 0 + j = omega arith in
      ap (λ x. cell t x j) row ∙ ap (cell t (0 + i)) col

  pub corner_taken : P i j → cell new.rows i j ≡ cell from.rows i j
  corner_taken h = from_origin new.rows ∙ p.taken i j h

  pub corner_kept : (P i j → ⊥) → cell new.rows i j ≡ cell to.rows i j
  corner_kept out = from_origin new.rows ∙ (p.others i j out ∙ sym (from_origin to.rows))
