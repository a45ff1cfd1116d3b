-- Rows put into a table and taken out of it, and what the storage has then.
use Rattle.std.proofs.Common.{◌≡◌, ℕ, ◌+◌, ◌*◌, ◌-◌, ◌<◌, ◌≤◌, Option, List, [], length, refl, sym, ◌∙◌, ap, subst, arith, is_some, ⊎_elim, slice_get, ne_eqb, mul-le-mul_right}
use Rattle.grid.proofs.Common.{mul-add-lt, cases_lt, row, row_count, cell, tabulate, place, table_of, Widened, Woven, Opened, rows-tabulate, cell-tabulate, width-tabulate, same_tables, IsFull, IsSome_within, insert_rows, without_rows, RowGroups, rows_added_shift, rows_taken_shift, at_equal}
use Rattle.grid_base.specs.declared.order.Order.{Order}
use Rattle.grid_base.specs.declared.order.Order.TheVariants.{RowMajor, ColumnMajor}
use Rattle.grid.proofs.ListEditLemmas.{get-cut_before, get-cut_after, get-put_before, get-put_new, get-put_after, length-put, length-cut, get_or-same, put_cases}

-- the lines have the cells of the other rows
pub cells-groups : (o : Order) (m n i k p q a g : ℕ) → RowGroups o m n i k p q a g → p * q ≡ m * n
cells-groups RowMajor m n i k p q a g e = ap (λ x. x * q) e.0 ∙ (ap (λ x. 1 * x) e.1 ∙ omega arith)
cells-groups ColumnMajor m n i k p q a g e = ap (λ x. x * q) e.0 ∙ (ap (λ x. n * x) e.1 ∙ omega arith)

-- rows that are added move as many cells as the same rows move when they go
pub shift-taken : (o : Order) (m n i k : ℕ) → 0 < k → rows_taken_shift o (m + k) n i k ≡ rows_added_shift o m n i k
shift-taken RowMajor m n i k some = rw (ne_eqb k 0 (λ e. omega arith)) (ap (λ x. x * n) (omega arith))
shift-taken ColumnMajor m n i k some = rw (ne_eqb k 0 (λ e. omega arith)) (ap (λ x. n * x - i) (omega arith))

-- the rows of a table of m rows and n columns are in a longer one, on both sides of k rows before row i
pub record RowsWidened {T : Type 0} (o : Order) (m n i k : ℕ) (short long : List T) : Type 0 where
  pub before : (r c : ℕ) → r < i → r < m → c < n → slice_get long (place o (m + k) n r c) ≡ slice_get short (place o m n r c)
  pub after : (r c : ℕ) → i ≤ r → r < m → c < n → slice_get long (place o (m + k) n (k + r) c) ≡ slice_get short (place o m n r c)

at_groups : (F : ℕ → ℕ → ℕ → ℕ → Type 0) (p q a g p' q' a' g' : ℕ) → p ≡ p' → q ≡ q' → a ≡ a' → g ≡ g' → F p q a g → F p' q' a' g'
at_groups F p q a g p' q' a' g' e1 e2 e3 e4 h =
    subst (λ x. F p' q' a' x) e4 (subst (λ x. F p' q' x g) e3 (subst (λ x. F p' x a g) e2 (subst (λ x. F x q a g) e1 h)))

module _ {T : Type 0} where
  widened_by_rows : (m n i k : ℕ) (short long : List T) → Widened 1 (m * n) (i * n) (k * n) short long → RowsWidened RowMajor m n i k short long
  widened_by_rows m n i k short long h =
      record {
        before = λ r c lr lm lc.
            at_equal long short (r * n + c) (0 * (m * n + k * n) + (r * n + c)) (r * n + c) (0 * (m * n) + (r * n + c)) (omega arith) (omega arith)
            (h.before 0 (r * n + c) (omega arith) (omega (arith, mul-add-lt r n c m lm lc)) (omega (arith, mul-add-lt r n c i lr lc)));
        after = λ r c le lm lc.
            at_equal long short ((k + r) * n + c) (0 * (m * n + k * n) + (k * n + (r * n + c))) (r * n + c) (0 * (m * n) + (r * n + c)) (omega arith) (omega arith)
            (h.after 0 (r * n + c) (omega arith) (omega (arith, mul-add-lt r n c m lm lc)) (omega (arith, mul-le-mul_right n le)));
      }

  widened_by_cols : (m n i k : ℕ) (short long : List T) → Widened n m i k short long → RowsWidened ColumnMajor m n i k short long
  widened_by_cols m n i k short long h =
      record {
        before = λ r c lr lm lc. h.before c r lc lm lr;
        after = λ r c le lm lc. h.after c r lc lm le;
      }

  pub rows_widened : (o : Order) (m n i k p q a g : ℕ) (short long : List T) → RowGroups o m n i k p q a g → Widened p q a g short long → RowsWidened o m n i k short long
  rows_widened RowMajor m n i k p q a g short long e h =
      widened_by_rows m n i k short long (at_groups (λ p q a g. Widened p q a g short long) p q a g 1 (m * n) (i * n) (k * n) e.0 e.1 e.2 e.3 h)
  rows_widened ColumnMajor m n i k p q a g short long e h =
      widened_by_cols m n i k short long (at_groups (λ p q a g. Widened p q a g short long) p q a g n m i k e.0 e.1 e.2 e.3 h)

  -- the groups are after the lines, as the storage of the rows
  pub rows_woven : (o : Order) (m n i k p q a g : ℕ) (short long : List T) → RowGroups o m n i k p q a g → Woven p q a g short long → (j c : ℕ) → j < k → c < n → slice_get long (place o (m + k) n (i + j) c) ≡ slice_get short (m * n + place o k n j c)
  rows_woven RowMajor m n i k p q a g short long e h j c lj lc =
      let w : Woven 1 (m * n) (i * n) (k * n) short long = at_groups (λ p q a g. Woven p q a g short long) p q a g 1 (m * n) (i * n) (k * n) e.0 e.1 e.2 e.3 h in
      at_equal long short ((i + j) * n + c) (0 * (m * n + k * n) + (i * n + (j * n + c))) (m * n + (j * n + c)) (1 * (m * n) + (0 * (k * n) + (j * n + c))) (omega arith) (omega arith)
      (w.groups 0 (j * n + c) (omega arith) (omega (arith, mul-add-lt j n c k lj lc)))
  rows_woven ColumnMajor m n i k p q a g short long e h j c lj lc =
      let w : Woven n m i k short long = at_groups (λ p q a g. Woven p q a g short long) p q a g n m i k e.0 e.1 e.2 e.3 h in
      at_equal long short (c * (m + k) + (i + j)) (c * (m + k) + (i + j)) (m * n + (c * k + j)) (n * m + (c * k + j)) refl (omega arith)
      (w.groups c j lc lj)

  -- each place of a group has a cell from after the lines
  pub rows_opened : (o : Order) (m n i k p q a g : ℕ) (short long : List T) → RowGroups o m n i k p q a g → Opened p q a g short long → (j c : ℕ) → j < k → c < n → (x : ℕ) × (m * n ≤ x) × (x < length short) × (slice_get long (place o (m + k) n (i + j) c) ≡ slice_get short x)
  rows_opened RowMajor m n i k p q a g short long e h j c lj lc =
      let w : Opened 1 (m * n) (i * n) (k * n) short long = at_groups (λ p q a g. Opened p q a g short long) p q a g 1 (m * n) (i * n) (k * n) e.0 e.1 e.2 e.3 h in
      let found = w.groups 0 (j * n + c) (omega arith) (omega (arith, mul-add-lt j n c k lj lc)) in
      (found.0, omega (arith, found.1), found.2, at_equal long short ((i + j) * n + c) (0 * (m * n + k * n) + (i * n + (j * n + c))) found.0 found.0 (omega arith) refl found.3)
  rows_opened ColumnMajor m n i k p q a g short long e h j c lj lc =
      let w : Opened n m i k short long = at_groups (λ p q a g. Opened p q a g short long) p q a g n m i k e.0 e.1 e.2 e.3 h in
      let found = w.groups c j lc lj in
      (found.0, omega (arith, found.1), found.2, found.3)

  -- each row has n cells
  abbrev pub HasWidth : List (List T) → ℕ → Type 0
  HasWidth t n = (r : ℕ) → r < row_count t → length (row t r) ≡ n

  -- a table is cut from cells that have, at each place, its cell
  pub table_by_cells : (o : Order) (m n : ℕ) (news : List T) (u : List (List T)) → row_count u ≡ m → ((r : ℕ) → r < m → length (row u r) ≡ n) → ((r : ℕ) → r < m → (c : ℕ) → c < n → slice_get news (place o m n r c) ≡ cell u r c) → table_of o m n news ≡ u
  table_by_cells o m n news u rows widths cells =
      let f : ℕ → ℕ → Option T = λ r c. slice_get news (place o m n r c) in
      let full : IsFull m n f = record { full = λ r c lr lc. ap is_some (cells r lr c lc) ∙ IsSome_within (row u r) c (omega (arith, widths r lr)) } in
      let len : length (tabulate m n f) ≡ m = rows-tabulate m n f in
      same_tables (tabulate m n f) u (len ∙ sym rows)
      (λ r lt. let l : r < m = omega (arith, len) in width-tabulate m n f r full l ∙ sym (widths r l))
      (λ r c lt lc.
      let l : r < m = omega (arith, len) in
      let k : c < n = omega (arith, width-tabulate m n f r full l) in
      cell-tabulate m n f r c full l k ∙ cells r l c k)

  -- the rows of a table into which lines are put
  module _ (i : ℕ) (lines t : List (List T)) (in_rows : i ≤ row_count t) where
    pub row-put_before : (r : ℕ) → r < i → row (insert_rows i lines t) r ≡ row t r
    row-put_before r lt = get_or-same (insert_rows i lines t) t r r [] (get-put_before t lines i in_rows r lt)

    pub row-put_new : (j : ℕ) → j < row_count lines → row (insert_rows i lines t) (i + j) ≡ row lines j
    row-put_new j lt = get_or-same (insert_rows i lines t) lines (i + j) j [] (get-put_new t lines i in_rows j lt)

    pub row-put_after : (r : ℕ) → i ≤ r → row (insert_rows i lines t) (row_count lines + r) ≡ row t r
    row-put_after r le = get_or-same (insert_rows i lines t) t (row_count lines + r) r [] (get-put_after t lines i in_rows r le)

    pub rows-put : row_count (insert_rows i lines t) ≡ row_count t + row_count lines
    rows-put = length-put t lines i in_rows

    -- rows of one length stay so
    widths-put : (n : ℕ) → HasWidth t n → HasWidth lines n → (r : ℕ) → r < row_count t + row_count lines → length (row (insert_rows i lines t) r) ≡ n
    widths-put n olds news =
        put_cases (λ r. length (row (insert_rows i lines t) r) ≡ n) i (row_count t) (row_count lines)
        (λ r lt. ap length (row-put_before r lt) ∙ olds r (omega arith))
        (λ j lt. ap length (row-put_new j lt) ∙ news j lt)
        (λ r le lt. ap length (row-put_after r le) ∙ olds r lt)

    pub HasWidth-put : (n : ℕ) → HasWidth t n → HasWidth lines n → HasWidth (insert_rows i lines t) n
    HasWidth-put n olds news r lt = widths-put n olds news r (omega (arith, rows-put))

  -- the rows of a table from which some are taken
  module _ (i k : ℕ) (t : List (List T)) (in_rows : i + k ≤ row_count t) where
    pub row-take_before : (r : ℕ) → r < i → row (without_rows i k t) r ≡ row t r
    row-take_before r lt = get_or-same (without_rows i k t) t r r [] (get-cut_before t i (i + k) (omega arith) r lt)

    pub row-take_after : (r : ℕ) → i ≤ r → row (without_rows i k t) r ≡ row t (k + r)
    row-take_after r le =
        let e : i + k + (r - i) ≡ k + r = omega arith in
        get_or-same (without_rows i k t) t r (k + r) [] (get-cut_after t i (i + k) (omega arith) r (r - i) (omega arith) ∙ ap (slice_get t) e)

    pub rows-take : row_count (without_rows i k t) + k ≡ row_count t
    rows-take = length-cut t i k in_rows

    widths-take : (n : ℕ) → HasWidth t n → (r : ℕ) → r + k < row_count t → length (row (without_rows i k t) r) ≡ n
    widths-take n olds r lt =
        ⊎_elim (λ l. ap length (row-take_before r l) ∙ olds r (omega arith))
        (λ ge. ap length (row-take_after r ge) ∙ olds (k + r) (omega arith))
        (cases_lt r i)

    pub HasWidth-take : (n : ℕ) → HasWidth t n → HasWidth (without_rows i k t) n
    HasWidth-take n olds r lt = widths-take n olds r (omega (arith, rows-take))

  -- a vector with the cells of a table and of lines put into it
  pub table-put : (o : Order) (m n i k : ℕ) (t lines : List (List T)) (new : List T) → row_count t ≡ m → ((r : ℕ) → r < m → length (row t r) ≡ n) → row_count lines ≡ k → ((j : ℕ) → j < k → length (row lines j) ≡ n) → i ≤ m → ((r c : ℕ) → r < i → r < m → c < n → slice_get new (place o (m + k) n r c) ≡ cell t r c) → ((j c : ℕ) → j < k → c < n → slice_get new (place o (m + k) n (i + j) c) ≡ cell lines j c) → ((r c : ℕ) → i ≤ r → r < m → c < n → slice_get new (place o (m + k) n (k + r) c) ≡ cell t r c) → table_of o (m + k) n new ≡ insert_rows i lines t
  table-put o m n i k t lines new em olds ek news le before within after =
      let in_rows : i ≤ row_count t = omega arith in
      let widths = widths-put i lines t in_rows n (λ r lt. olds r (omega arith)) (λ j lt. news j (omega arith)) in
      table_by_cells o (m + k) n new (insert_rows i lines t) (omega (arith, rows-put i lines t in_rows))
      (λ r lt. widths r (omega arith))
      (put_cases (λ r. (c : ℕ) → c < n → slice_get new (place o (m + k) n r c) ≡ cell (insert_rows i lines t) r c) i m k
      (λ r lt c lc. before r c lt (omega arith) lc ∙ ap (λ x. slice_get x c) (sym (row-put_before i lines t in_rows r lt)))
      (λ j lt c lc. within j c lt lc ∙ ap (λ x. slice_get x c) (sym (row-put_new i lines t in_rows j (omega arith))))
      (λ r ge lt c lc. after r c ge lt lc
      ∙ (ap (λ x. slice_get x c) (sym (row-put_after i lines t in_rows r ge)) ∙ ap (λ x. cell (insert_rows i lines t) (x + r) c) ek)))

  -- a vector with the cells of a table but for the rows that are taken
  pub table-take : (o : Order) (m n i k rest : ℕ) (t : List (List T)) (new : List T) → rest + k ≡ m → row_count t ≡ m → ((r : ℕ) → r < m → length (row t r) ≡ n) → i + k ≤ m → ((r c : ℕ) → r < i → r < rest → c < n → slice_get new (place o rest n r c) ≡ cell t r c) → ((r c : ℕ) → i ≤ r → r < rest → c < n → slice_get new (place o rest n r c) ≡ cell t (k + r) c) → table_of o rest n new ≡ without_rows i k t
  table-take o m n i k rest t new e em olds le before after =
      let in_rows : i + k ≤ row_count t = omega arith in
      table_by_cells o rest n new (without_rows i k t) (omega (arith, rows-take i k t in_rows))
      (λ r lt. widths-take i k t in_rows n (λ r lt. olds r (omega arith)) r (omega arith))
      (λ r lt c lc.
      ⊎_elim (λ l. before r c l lt lc ∙ ap (λ x. slice_get x c) (sym (row-take_before i k t in_rows r l)))
      (λ ge. after r c ge lt lc ∙ ap (λ x. slice_get x c) (sym (row-take_after i k t in_rows r ge)))
      (cases_lt r i))
