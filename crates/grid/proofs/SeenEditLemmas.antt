-- What a line edit starts from and leaves, by a grid's fields.
use Rattle.std.proofs.Common.{◌≡◌, ◌<◌, ◌≤◌, ◌+◌, ◌-◌, ◌*◌, ◌^◌, ◌++◌, [], ℕ, zero, suc, List, Vec, take, drop, length, length-append, refl, sym, ◌∙◌, ap, arith, ⊎_elim, subst, Bool, true, false, IsTrue, ◌↔◌}
use Rattle.grid.proofs.Common.{cases_lt, cases_eq, nil_from_length, take-append_seam, drop-append_seam, eqb-suc-zero, row_count, col_count, IsTable, storage, table_of, items_of_each, GridValue, HoldsSize, Woven, Closed, TakenOut, rows-vecs, length-storage, FitsRow, insert_rows, without_rows, RowGroups, cols_if_rows, HoldsSize-none, view-rows, view-cols, view-table, view-storage, grid_value, rows_added_shift, rows_taken_shift}
use Rattle.grid_base.specs.declared.order.Order.{Order}
use Rattle.grid.proofs.SeenLemmas.{seen_rows, seen_cols}
use Rattle.grid.proofs.RowEditLemmas.{cells-groups, shift-taken}
use Rattle.grid.proofs.EditViewLemmas.{view-without_rows, view-taken_rows, view-close_rows, cells-closed, view-insert_rows, table_of-no_rows}
use Rattle.grid.proofs.EditSizeLemmas.{HoldsSize-fewer, HoldsSize-filled}

-- the cells of k lines of w cells are after others
pub record RowsBehind {T : Type 0} (o : Order) (w k : ℕ) (cells : List T) (lines : List (List T)) (grown : List T) : Type 0 where
  pub table : IsTable lines
  pub count : row_count lines ≡ k
  pub wide : col_count lines ≡ w
  pub behind : grown ≡ cells ++ storage o lines

-- lines that were moved there
pub RowsBehind-lines : {T A : Type 0} (o : Order) (w k : ℕ) (cells grown : List T) {old now : List (Vec T A)} → IsTable (items_of_each old) → w ≡ col_count (items_of_each old) → k ≡ length old → now ≡ old → grown ≡ cells ++ storage o (items_of_each now) → RowsBehind o w k cells (items_of_each old) grown
RowsBehind-lines o w k cells grown {old} table wide count same e =
    record {
      table = table;
      count = rows-vecs old ∙ sym count;
      wide = sym wide;
      behind = e ∙ ap (λ xs. cells ++ storage o (items_of_each xs)) same;
    }

-- lines that are cut from cells there
pub RowsBehind-put : {T : Type 0} (o : Order) (w k m : ℕ) (cells news grown : List T) → 0 < k → 0 < w → length news ≡ k * w → (m + k) * w < 2 ^ 64 → grown ≡ cells ++ news → RowsBehind o w k cells (table_of o k w news) grown
RowsBehind-put o w k m cells news grown some wide len small e =
    let h = HoldsSize-filled k w (length news) some wide len (omega (arith, len, small)) in
    record {
      table = view-table o k w news h;
      count = view-rows o k w news h;
      wide = view-cols o k w news h;
      behind = e ∙ ap (λ x. cells ++ x) (sym (view-storage o k w news h));
    }

module _ {T : Type 0} (o : Order) (m n : ℕ) (cells : List T) (s : GridValue T) (h : HoldsSize m n (length cells)) (e : grid_value o m n cells h ≡ s) (w : ℕ) (f : FitsRow s.rows w) where
  no_rows : s.rows ≡ [] → m ≡ 0
  no_rows none = sym (seen_rows o m n cells s h e) ∙ ap length none

  -- the cells are rows of the length that fits
  pub cells_fit : length cells ≡ m * w
  cells_fit =
      h.cells
      ∙ ⊎_elim {C = m * n ≡ m * w} (λ none. ap (λ x. x * n) (no_rows none) ∙ (omega arith ∙ sym (ap (λ x. x * w) (no_rows none))))
      (λ wide. ap (λ x. m * x) (sym (wide ∙ seen_cols o m n cells s h e))) f

  -- and the rows are cut from them
  pub rows_fit : table_of o m w cells ≡ s.rows
  rows_fit =
      ⊎_elim {C = table_of o m w cells ≡ s.rows} (λ none. ap (λ x. table_of o x w cells) (no_rows none) ∙ (table_of-no_rows o w cells ∙ sym none))
      (λ wide. ap (λ x. table_of o m x cells) (wide ∙ seen_cols o m n cells s h e) ∙ ap (λ x. x.rows) e) f

  -- k lines of w cells are put before row i
  module _ (k : ℕ) (lines : List (List T)) (grown : List T) (b : RowsBehind o w k cells lines grown) where
    pub put_cells : length grown ≡ (m + k) * w
    put_cells =
        let behind : row_count lines * col_count lines ≡ k * w = ap (λ x. x * col_count lines) b.count ∙ ap (λ x. k * x) b.wide in
        ap length b.behind ∙ omega (arith, length-append cells (storage o lines), length-storage o lines b.table, behind, cells_fit)

    module _ (i p q a g : ℕ) (new : List T) (groups : RowGroups o m w i k p q a g) (woven : Woven p q a g grown new) where
      pub put_fits : 0 < k → (m + k) * w < 2 ^ 64 → HoldsSize (m + k) w (length new)
      put_fits some small =
          let wide : 0 < w = omega (arith, b.wide, b.table.nonempty 0 (omega (arith, b.count, some))) in
          let total = woven.lengths ∙ put_cells in
          HoldsSize-filled (m + k) w (length new) (omega (arith, some)) wide total (omega (arith, small, total))

      pub rows_put : i ≤ row_count s.rows → table_of o (m + k) w new ≡ insert_rows i lines s.rows
      rows_put le =
          view-insert_rows o m w cells cells_fit i k p q a g lines new groups b.table b.count b.wide (omega (arith, le, seen_rows o m n cells s h e))
          (subst (λ x. Woven p q a g x new) b.behind woven)
          ∙ ap (insert_rows i lines) rows_fit

-- what the test for room says of the rows that a contract sees
module _ (found : Bool) (m k rows w width : ℕ) (e : rows ≡ m) (f : w ≡ width) (tests : IsTrue found ↔ ((m + k) * w < 2 ^ 64)) where
  pub room : found ≡ true → 2 ^ 64 ≤ (rows + k) * width → ⊥
  room fits large = let small = rw f at (tests.0 fits) in let same : (rows + k) * width ≡ (m + k) * width = ap (λ x. (x + k) * width) e in omega (arith, small, same, large)

  pub no_room : found ≡ false → 2 ^ 64 ≤ (rows + k) * width
  no_room full =
      ⊎_elim {C = 2 ^ 64 ≤ (rows + k) * width}
      (λ small. let same : (rows + k) * width ≡ (m + k) * w = ap (λ x. (x + k) * width) e ∙ ap (λ x. (m + k) * x) (sym f) in
      let fits : found ≡ true = tests.1 (omega (arith, small, same)) in cc (fits, full))
      (λ large. large) (cases_lt ((rows + k) * width) (2 ^ 64))

module _ {T : Type 0} (o : Order) (n i k rest : ℕ) (old new : List T) where
  -- k rows from row i on of a table of rest + k rows and n columns are taken out
  pub record RowsTaken : Type 0 where
    pub lengths : length new ≡ rest * n
    pub table : table_of o rest n new ≡ without_rows i k (table_of o (rest + k) n old)

storage-none : {T : Type 0} (o : Order) (t : List (List T)) → row_count t ≡ 0 → storage o t ≡ []
storage-none o t none =
    let h : IsTable t = record { nonempty = λ r lt. absurd (omega (arith, none)); even = λ r lt. absurd (omega (arith, none)) } in
    nil_from_length (storage o t) (length-storage o t h ∙ (ap (λ x. x * col_count t) none ∙ omega arith))

-- the table and the size where `rest` rows are left
pub table_left : {T : Type 0} (o : Order) (rest n : ℕ) (cells : List T) → table_of o rest (cols_if_rows rest n) cells ≡ table_of o rest n cells
table_left o zero n cells = table_of-no_rows o 0 cells ∙ sym (table_of-no_rows o n cells)
table_left o (suc rest) n cells = rw (eqb-suc-zero rest) refl

pub HoldsSize-left : (m n rest len part : ℕ) → HoldsSize m n len → rest ≤ m → part ≡ rest * n → HoldsSize rest (cols_if_rows rest n) part
HoldsSize-left m n zero len part h le e = HoldsSize-none part (e ∙ omega arith)
HoldsSize-left m n (suc rest) len part h le e = rw (eqb-suc-zero rest) (HoldsSize-fewer m n (suc rest) len part h (omega arith) le e)

-- taking some rows of a grid
module _ {T : Type 0} (o : Order) (m n : ℕ) (cells : List T) (s : GridValue T) (h : HoldsSize m n (length cells)) (e : grid_value o m n cells h ≡ s) (i k : ℕ) (within : i + k ≤ row_count s.rows) where
  pub taken_in : i + k ≤ m
  taken_in = rw (seen_rows o m n cells s h e) at within

  pub taken_whole : m - k + k ≡ m
  taken_whole = omega (arith, taken_in)

  pub taken_wide : 0 < k → 0 < n
  taken_wide some = h.size.has_cols (omega (arith, taken_in, some))

  pub taken_cells : length cells ≡ (m - k + k) * n
  taken_cells = h.cells ∙ ap (λ x. x * n) (sym taken_whole)

  pub taken_small : (m - k + k) * n < 2 ^ 64
  taken_small = rw taken_whole h.below

  -- groups closed up are rows taken
  pub closed : (p q a g : ℕ) (new : List T) → RowGroups o (m - k) n i k p q a g → Closed p q a g new cells → RowsTaken o n i k (m - k) cells new
  closed p q a g new groups w =
      record {
        lengths = cells-closed o (m - k) n i k p q a g new cells groups w;
        table = view-close_rows o (m - k + k) n i k (m - k) cells refl taken_cells (omega (arith, taken_in)) p q a g new groups w;
      }

  pub rows_taken_out : (new : List T) → RowsTaken o n i k (m - k) cells new → table_of o (m - k) (cols_if_rows (m - k) n) new ≡ without_rows i k s.rows
  rows_taken_out new p =
      table_left o (m - k) n new ∙ (p.table ∙ (ap (λ x. without_rows i k (table_of o x n cells)) taken_whole ∙ ap (λ x. without_rows i k x.rows) e))

  pub taken_fits : (new : List T) → RowsTaken o n i k (m - k) cells new → HoldsSize (m - k) (cols_if_rows (m - k) n) (length new)
  taken_fits new p = HoldsSize-left m n (m - k) (length cells) (length new) h (omega arith) p.lengths

  -- as many cells move as the same rows move when they come
  pub taken_shift : 0 < k → rows_taken_shift s.order (row_count s.rows) (col_count s.rows) i k ≡ rows_added_shift o (m - k) n i k
  taken_shift some =
      ap (λ x. rows_taken_shift x.order (row_count x.rows) (col_count x.rows) i k) (sym e)
      ∙ (ap (λ x. rows_taken_shift o x (col_count (table_of o m n cells)) i k) (view-rows o m n cells h ∙ sym taken_whole)
      ∙ (ap (λ x. rows_taken_shift o (m - k + k) x i k) (view-cols o m n cells h) ∙ shift-taken o (m - k) n i k some))

  module _ (p q a g : ℕ) (new taken : List T) (groups : RowGroups o (m - k) n i k p q a g) (out : TakenOut p q a g new taken cells) where
    abbrev rest : ℕ
    rest = m - k

    lengths : length new ≡ rest * n
    lengths = out.lengths ∙ cells-groups o rest n i k p q a g groups

    within_rest : i + k ≤ rest + k
    within_rest = omega (arith, taken_in)

    -- groups taken out are rows taken
    pub taken_out : RowsTaken o n i k (m - k) cells new
    taken_out =
        let front : take (rest * n) (new ++ taken) ≡ new = ap (λ x. take x (new ++ taken)) (sym lengths) ∙ take-append_seam new taken in
        record {
          lengths = lengths;
          table = ap (table_of o rest n) (sym front) ∙ view-without_rows o (rest + k) n i k rest cells refl taken_cells within_rest p q a g (new ++ taken) groups out.woven;
        }

    whole : table_of o (rest + k) n cells ≡ s.rows
    whole = ap (λ x. table_of o x n cells) taken_whole ∙ ap (λ x. x.rows) e

    some_taken : 0 < k → taken ≡ storage s.order (take k (drop i s.rows))
    some_taken some =
        let behind : drop (rest * n) (new ++ taken) ≡ taken = ap (λ x. drop x (new ++ taken)) (sym lengths) ∙ drop-append_seam new taken in
        sym behind
        ∙ (view-taken_rows o (rest + k) n i k rest cells refl taken_cells within_rest p q a g (new ++ taken) groups out.woven (taken_wide some) some
        ∙ (ap (λ x. storage o (take k (drop i x))) whole ∙ ap (λ x. storage x.order (take k (drop i s.rows))) e))

    none_taken : k ≡ 0 → taken ≡ storage s.order (take k (drop i s.rows))
    none_taken none =
        let size : length taken ≡ k * n = omega (arith, out.woven.lengths, length-append new taken, lengths, taken_cells) in
        nil_from_length taken (omega (arith, size, ap (λ x. x * n) none))
        ∙ sym (storage-none s.order (take k (drop i s.rows)) (ap (λ x. length (take x (drop i s.rows))) none))

    -- and their cells are those of the rows
    pub taken_storage : taken ≡ storage s.order (take k (drop i s.rows))
    taken_storage = ⊎_elim none_taken (λ some. some_taken (omega arith)) (cases_eq k 0)
