-- A table of which one cell is written.
use Rattle.std.proofs.Common.{◌≡◌, ◌≢◌, ℕ, zero, suc, ◌*◌, ◌<◌, Option, Some, None, List, [], ◌∷◌, length, set, get_or, refl, sym, ◌∙◌, ap, arith, ◌⊎◌, inl, inr, ⊎_elim, slice_get, swap, length-set, get_or-set_same, get_or-set_other}
use Rattle.std.proofs.lemmas.List.Edits.{swap_is}
use Rattle.std.proofs.lemmas.Option.{slice_get-get_or}
use Rattle.std.proofs.lemmas.Nat.{same_from_place}
use Rattle.std.proofs.lemmas.Bool.{cases_eq, cases_lt}
use Rattle.grid_base.specs.declared.order.Order.{Order}
use Rattle.grid_base.specs.declared.order.Order.TheVariants.{RowMajor, ColumnMajor}
use Rattle.grid_base.specs.Table.{row, row_count, col_count, cell, with_cell, with_cell_of, exchanged, IsTable}
use Rattle.grid_base.specs.Order.{place, table_of}
use Rattle.grid_base.specs.GridValue.{HoldsSize, FitsUsize}
use Rattle.grid_base.proofs.TableLemmas.{rows-tabulate, same_tables, cell_past_rows}
use Rattle.grid_base.proofs.StorageLemmas.{width-table_of, cell-table_of, place_within}
use Rattle.grid_base.proofs.ViewLemmas.{view-rows, view-cols, view-table, view-cell}

pub get-set_same : {T : Type 0} (xs : List T) (i : ℕ) (w : T) → i < length xs → slice_get (set xs i w) i ≡ Some w
get-set_same [] i w h = absurd (omega arith)
get-set_same (x ∷ xs) zero w h = refl
get-set_same (x ∷ xs) (suc i) w h = get-set_same xs i w (omega arith)

pub get-set_other : {T : Type 0} (xs : List T) (i j : ℕ) (w : T) → j ≢ i → slice_get (set xs i w) j ≡ slice_get xs j
get-set_other [] i j w h = refl
get-set_other (x ∷ xs) zero zero w h = absurd (h refl)
get-set_other (x ∷ xs) zero (suc j) w h = refl
get-set_other (x ∷ xs) (suc i) zero w h = refl
get-set_other (x ∷ xs) (suc i) (suc j) w h = get-set_other xs i j w (λ e. h (ap suc e))

-- two positions are one, or a write at the one leaves the other
pub same_or_other : (a b : ℕ × ℕ) → (a ≡ b) ⊎ (a.0 ≡ b.0 → a.1 ≢ b.1)
same_or_other a b =
    ⊎_elim (λ e. ⊎_elim (λ f. inl (λ k. (e k, f k))) (λ ne. inr (λ _. ne)) (cases_eq a.1 b.1))
    (λ ne. inr (λ e. absurd (ne e)))
    (cases_eq a.0 b.0)

-- the rows and the cells of which one cell is written
module _ {T : Type 0} (t : List (List T)) (r c : ℕ) (w : T) where
  pub rows-written : row_count (with_cell t r c w) ≡ row_count t
  rows-written = length-set t r (set (row t r) c w)

  pub cell-written : r < row_count t → c < length (row t r) → cell (with_cell t r c w) r c ≡ Some w
  cell-written lr lc = ap (λ v. slice_get v c) (get_or-set_same t r (set (row t r) c w) [] lr) ∙ get-set_same (row t r) c w lc

  pub cell-with_other : (i j : ℕ) → (i ≡ r → j ≢ c) → cell (with_cell t r c w) i j ≡ cell t i j
  cell-with_other i j ne =
      ⊎_elim (λ e.
      ⊎_elim (λ lt.
      ap (λ x. cell (with_cell t r c w) x j) e
      ∙ (ap (λ v. slice_get v j) (get_or-set_same t r (set (row t r) c w) [] lt)
      ∙ (get-set_other (row t r) c j w (ne e) ∙ ap (λ x. cell t x j) (sym e))))
      (λ past. cell_past_rows (with_cell t r c w) i j (omega (arith, rows-written)) ∙ sym (cell_past_rows t i j (omega arith)))
      (cases_lt r (row_count t)))
      (λ n. ap (λ v. slice_get v j) (get_or-set_other t r i (set (row t r) c w) [] n))
      (cases_eq i r)

-- a table of which a cell is written is a table
module _ {T : Type 0} (t : List (List T)) (h : IsTable t) (r c : ℕ) (w : T) where
  pub widths-written : (i : ℕ) → i < row_count t → length (row (with_cell t r c w) i) ≡ col_count t
  widths-written i lt =
      ⊎_elim (λ e.
      ap (λ x. length (row (with_cell t r c w) x)) e
      ∙ (ap length (get_or-set_same t r (set (row t r) c w) [] (omega arith)) ∙ (length-set (row t r) c w ∙ h.even r (omega arith))))
      (λ ne. ap length (get_or-set_other t r i (set (row t r) c w) [] ne) ∙ h.even i lt)
      (cases_eq i r)

  pub IsTable-with_cell : IsTable (with_cell t r c w)
  IsTable-with_cell =
      record {
        nonempty = λ i lt. omega (arith, widths-written i (omega (arith, rows-written t r c w)), h.nonempty 0 (omega (arith, rows-written t r c w)));
        even = λ i lt. widths-written i (omega (arith, rows-written t r c w)) ∙ sym (widths-written 0 (omega (arith, rows-written t r c w)));
      }

  -- its cell there
  pub cell-with_same : r < row_count t → c < col_count t → cell (with_cell t r c w) r c ≡ Some w
  cell-with_same lr lc = cell-written t r c w lr (omega (arith, h.even r lr))

-- and its size is the same
pub cols-with_cell : {T : Type 0} (t : List (List T)) → IsTable t → (r c : ℕ) (w : T) → col_count (with_cell t r c w) ≡ col_count t
cols-with_cell [] h r c w = refl
cols-with_cell (x ∷ t) h r c w = widths-written (x ∷ t) h r c w 0 (omega arith)

pub FitsUsize-with_cell : {T : Type 0} (t : List (List T)) → IsTable t → (r c : ℕ) (w : T) → FitsUsize (row_count t) (col_count t) → FitsUsize (row_count (with_cell t r c w)) (col_count (with_cell t r c w))
FitsUsize-with_cell t h r c w fits = rw (rows-written t r c w, cols-with_cell t h r c w) fits

module _ {T : Type 0} (t : List (List T)) (h : IsTable t) (r c : ℕ) where
  pub rows-with_cell_of : (w : Option T) → row_count (with_cell_of t r c w) ≡ row_count t
  rows-with_cell_of None = refl
  rows-with_cell_of (Some w) = rows-written t r c w

  pub cols-with_cell_of : (w : Option T) → col_count (with_cell_of t r c w) ≡ col_count t
  cols-with_cell_of None = refl
  cols-with_cell_of (Some w) = cols-with_cell t h r c w

  pub IsTable-with_cell_of : (w : Option T) → IsTable (with_cell_of t r c w)
  IsTable-with_cell_of None = h
  IsTable-with_cell_of (Some w) = IsTable-with_cell t h r c w

module _ {T : Type 0} (t : List (List T)) (h : IsTable t) (a b : ℕ × ℕ) where
  once : IsTable (with_cell_of t a.0 a.1 (cell t b.0 b.1))
  once = IsTable-with_cell_of t h a.0 a.1 (cell t b.0 b.1)

  pub rows-exchanged : row_count (exchanged t a b) ≡ row_count t
  rows-exchanged = rows-with_cell_of _ once b.0 b.1 (cell t a.0 a.1) ∙ rows-with_cell_of t h a.0 a.1 (cell t b.0 b.1)

  pub cols-exchanged : col_count (exchanged t a b) ≡ col_count t
  cols-exchanged = cols-with_cell_of _ once b.0 b.1 (cell t a.0 a.1) ∙ cols-with_cell_of t h a.0 a.1 (cell t b.0 b.1)

-- two cells of one place are one
pub same_place : (o : Order) (m n i j r c : ℕ) → i < m → j < n → r < m → c < n → place o m n i j ≡ place o m n r c → (i ≡ r) × (j ≡ c)
same_place RowMajor m n i j r c p q a b e = same_from_place i j r c n q b e
same_place ColumnMajor m n i j r c p q a b e = let s = same_from_place j i c r m p a e in (s.1, s.0)

module _ {T : Type 0} (o : Order) (m n : ℕ) (cells : List T) (h : HoldsSize m n (length cells)) (r c : ℕ) (lr : r < m) (lc : c < n) (w : T) where
  abbrev old : List (List T)
  old = table_of o m n cells

  abbrev news : List T
  news = set cells (place o m n r c) w

  is_table : IsTable old
  is_table = view-table o m n cells h

  news_fit : length news ≡ m * n
  news_fit = length-set cells _ w ∙ h.cells

  size : (row_count old ≡ m) × (col_count old ≡ n)
  size = (view-rows o m n cells h, view-cols o m n cells h)

  cell_at : (i j : ℕ) → i < m → j < n → slice_get news (place o m n i j) ≡ cell (with_cell old r c w) i j
  cell_at i j li lj =
      ⊎_elim (λ e.
      ap (λ (p : ℕ × ℕ). slice_get news (place o m n p.0 p.1)) e
      ∙ (get-set_same cells (place o m n r c) w (omega (arith, h.cells, place_within o m n r c lr lc))
      ∙ sym (ap (λ (p : ℕ × ℕ). cell (with_cell old r c w) p.0 p.1) e ∙ cell-with_same old is_table r c w (omega (arith, size)) (omega (arith, size)))))
      (λ far.
      get-set_other cells (place o m n r c) (place o m n i j) w (λ s. let at = same_place o m n i j r c li lj lr lc s in far at.0 at.1)
      ∙ (sym (view-cell o m n cells h i j li lj) ∙ sym (cell-with_other old r c w i j far)))
      (same_or_other (i, j) (r, c))

  -- a write to a cell's place writes the cell
  pub view-write : table_of o m n news ≡ with_cell old r c w
  view-write =
      same_tables _ _ (rows-tabulate m n _ ∙ sym (rows-written old r c w ∙ size.0))
      (λ i l.
      let li : i < m = omega (arith, rows-tabulate m n (λ i j. slice_get news (place o m n i j))) in
      width-table_of o m n news news_fit i li ∙ sym (widths-written old is_table r c w i (omega (arith, size)) ∙ size.1))
      (λ i j l k.
      let li : i < m = omega (arith, rows-tabulate m n (λ i j. slice_get news (place o m n i j))) in
      let lj : j < n = omega (arith, width-table_of o m n news news_fit i li) in
      cell-table_of o m n news news_fit i j li lj ∙ cell_at i j li lj)

-- a swap of two cells' places exchanges the cells
pub view-swap : {T : Type 0} (o : Order) (m n : ℕ) (cells : List T) (h : HoldsSize m n (length cells)) (a b : ℕ × ℕ) → a.0 < m → a.1 < n → b.0 < m → b.1 < n → table_of o m n (swap cells (place o m n a.0 a.1) (place o m n b.0 b.1)) ≡ exchanged (table_of o m n cells) a b
view-swap o m n [] h a b ra ca rb cb = absurd (omega (arith, h.cells, place_within o m n a.0 a.1 ra ca))
view-swap o m n (d ∷ others) h a b ra ca rb cb =
    let cells = d ∷ others in
    let i = place o m n a.0 a.1 in
    let j = place o m n b.0 b.1 in
    let i_in : i < length cells = omega (arith, h.cells, place_within o m n a.0 a.1 ra ca) in
    let j_in : j < length cells = omega (arith, h.cells, place_within o m n b.0 b.1 rb cb) in
    let x = get_or cells j d in
    let y = get_or cells i d in
    let fits : HoldsSize m n (length (set cells i x)) = rw (length-set cells i x) h in
    let at_a = view-cell o m n cells h a.0 a.1 ra ca ∙ slice_get-get_or cells i d i_in in
    let at_b = view-cell o m n cells h b.0 b.1 rb cb ∙ slice_get-get_or cells j d j_in in
    ap (table_of o m n) (sym (swap_is cells i j d i_in j_in))
    ∙ (view-write o m n (set cells i x) fits b.0 b.1 rb cb y
    ∙ (ap (λ t. with_cell t b.0 b.1 y) (view-write o m n cells h a.0 a.1 ra ca x) ∙ sym (rw (at_a, at_b) refl)))
