-- What opened groups of fresh cells are in the table: rows of padding.
use Rattle.std.proofs.Common.{◌≡◌, ℕ, zero, suc, ◌+◌, ◌*◌, ◌-◌, ◌<◌, ◌≤◌, Option, Some, List, [], ◌∷◌, length, take, drop, replicate, refl, sym, ◌∙◌, ap, subst, arith, is_some, length-drop, slice_get, All, length-take-le}
use Rattle.grid.proofs.Common.{All-nil, All-cons, All-head, All-tail, All-get_or, All-from_get_or, get_or_from_slice_get, row, row_count, cell, tabulate, place, table_of, Opened, rows-tabulate, cell-tabulate, width-tabulate, IsFull, IsSome_within, place_within, get-take, get-drop, width-table_of, cell-table_of, insert_rows, RowGroups}
use Rattle.grid_base.specs.declared.order.Order.{Order}
use Rattle.grid.proofs.RowEditLemmas.{rows_widened, rows_opened, table-put}

module _ {T : Type 0} (o : Order) (m n i k : ℕ) (old new : List T) where
  -- k rows of cells that were after a table of m rows and n columns are put before its row i
  pub record RowsOpened : Type 0 where
    pub lengths : length new ≡ length old
    pub fresh : List (List T)
    pub rows : row_count fresh ≡ k
    pub widths : (j : ℕ) → j < row_count fresh → length (row fresh j) ≡ n
    pub from : (j c : ℕ) → j < k → c < n → (x : ℕ) × (m * n ≤ x) × (x < length old)
        × (cell fresh j c ≡ slice_get old x)
    pub put : table_of o (m + k) n new ≡ insert_rows i fresh (table_of o m n (take (m * n) old))

module _ {T : Type 0} where
  pub holds_at : (P : T → Type 0) (ys : List T) (y : ℕ) (x : T) → All P ys → y < length ys → slice_get ys y ≡ Some x → P x
  holds_at P ys y x all lt e = subst P (get_or_from_slice_get ys y x x e) (All-get_or P ys y x lt all)

  pub All-from_gets : (P : T → Type 0) (xs : List T) → ((c : ℕ) (x : T) → c < length xs → slice_get xs c ≡ Some x → P x) → All P xs
  All-from_gets P [] h = All-nil P
  All-from_gets P (x ∷ xs) h = All-cons P x xs (h 0 x (omega arith) refl) (All-from_gets P xs (λ c y lt e. h (suc c) y (omega arith) e))

  -- a list whose elements are all elements of ys
  pub All-from_positions : (P : T → Type 0) (xs ys : List T) → All P ys → ((c : ℕ) → c < length xs → (y : ℕ) × (y < length ys) × (slice_get xs c ≡ slice_get ys y)) → All P xs
  All-from_positions P xs ys all h = All-from_gets P xs (λ c x lt e. let f = h c lt in holds_at P ys f.0 x all f.1 (sym f.2 ∙ e))

  pub replicate_from_all : (d : T) (xs : List T) (n : ℕ) → All (λ x. x ≡ d) xs → length xs ≡ n → xs ≡ replicate n d
  replicate_from_all d [] zero all e = refl
  replicate_from_all d [] (suc n) all e = absurd (omega arith)
  replicate_from_all d (x ∷ xs) zero all e = absurd (omega arith)
  replicate_from_all d (x ∷ xs) (suc n) all e =
      let first : x ≡ d = All-head (λ x. x ≡ d) x xs all in
      let rest : xs ≡ replicate n d = replicate_from_all d xs n (All-tail (λ x. x ≡ d) x xs all) (omega arith) in
      cc

  -- groups that are opened are rows of the cells after the first m * n
  module _ (o : Order) (m n i k p q a g : ℕ) (before new : List T) (e : RowGroups o m n i k p q a g) (len : m * n ≤ length before) (le : i ≤ m) (h : Opened p q a g before new) where
    pub view-open_rows : RowsOpened o m n i k before new
    view-open_rows =
        let f : ℕ → ℕ → Option T = λ j c. slice_get new (place o (m + k) n (i + j) c) in
        let full : IsFull k n f = record { full = λ j c lj lc. let x = rows_opened o m n i k p q a g before new e h j c lj lc in ap is_some x.3 ∙ IsSome_within before x.0 x.2 } in
        let fresh = tabulate k n f in
        let rows : row_count fresh ≡ k = rows-tabulate k n f in
        let widths : (j : ℕ) → j < k → length (row fresh j) ≡ n = λ j lt. width-tabulate k n f j full lt in
        let kept = take (m * n) before in
        let size : length kept ≡ m * n = length-take-le (m * n) before len in
        let wide = rows_widened o m n i k p q a g before new e h.lines in
        record {
          lengths = h.lengths;
          fresh = fresh;
          rows = rows;
          widths = λ j lt. widths j (omega arith);
          from = λ j c lj lc.
              let x = rows_opened o m n i k p q a g before new e h j c lj lc in
              (x.0, x.1, x.2, cell-tabulate k n f j c full lj lc ∙ x.3);
          put =
              table-put o m n i k (table_of o m n kept) fresh new (rows-tabulate m n _) (width-table_of o m n kept size) rows widths le
              (λ r c lr lm lc. wide.before r c lr lm lc
              ∙ (sym (get-take (m * n) before (place o m n r c) (place_within o m n r c lm lc)) ∙ sym (cell-table_of o m n kept size r c lm lc)))
              (λ j c lj lc. sym (cell-tabulate k n f j c full lj lc))
              (λ r c ge lm lc. wide.after r c ge lm lc
              ∙ (sym (get-take (m * n) before (place o m n r c) (place_within o m n r c lm lc)) ∙ sym (cell-table_of o m n kept size r c lm lc)));
        }

  module _ (o : Order) (m n i k : ℕ) (before new : List T) (h : RowsOpened o m n i k before new) where
    -- what holds of each cell after the table holds of each fresh one
    pub All-fresh : (P : T → Type 0) → All P (drop (m * n) before) → (j : ℕ) → j < k → All P (row h.fresh j)
    All-fresh P all j lj =
        let wide : length (row h.fresh j) ≡ n = h.widths j (omega (arith, h.rows)) in
        All-from_positions P (row h.fresh j) (drop (m * n) before) all
        (λ c lc.
        let x = h.from j c lj (omega arith) in
        let at_least = x.1 in
        let below = x.2 in (
          x.0 - m * n,
          omega (arith, length-drop (m * n) before, at_least, below),
          x.3 ∙ sym (get-drop (m * n) before x.0 (x.0 - m * n) (omega (arith, at_least))),
        ))

    pub All-all_fresh : (P : T → Type 0) → All P (drop (m * n) before) → All (All P) h.fresh
    All-all_fresh P all = All-from_get_or (All P) h.fresh [] (λ j lt. All-fresh P all j (omega (arith, h.rows)))
