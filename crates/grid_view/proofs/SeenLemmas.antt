-- What the fields of a view say of the rows that a contract sees.
use Rattle.std.proofs.Common.{◌≡◌, ◌⊎◌, IsTrue, ◌↔◌, ◌==◌, if◌then◌else◌, nat_eq, ℕ, ◌+◌, ◌-◌, ◌*◌, ◌<◌, ◌≤◌, Bool, true, false, None, List, [], length, take, drop, slice_get, is_some, refl, sym, ◌∙◌, ap, arith, length-take-le, eqb-true, eq-eqb}
use Rattle.std.proofs.lemmas.Bool.Decides.{nat_tests}
use Rattle.grid_base.proofs.Common.{PathP, is_prop→PathP, mul-le, row_count, col_count, cell, concat_rows, tabulate, IsTable, table_of, HoldsSize, FitsUsize, act, source_row, source_col, image_rows, image_cols, flags_of, nil_from_length}
use Rattle.grid_base.specs.Lines.{counted}
use Rattle.grid_base.specs.Strides.{strides_of}
use Rattle.grid_base.specs.declared.order.Order.{Order}
use Rattle.grid_base.specs.declared.order.Order.TheVariants.{RowMajor, ColumnMajor}
use Rattle.grid_base.specs.declared.words.Symmetry.{Symmetry}
use Rattle.grid_base.specs.declared.words.Symmetry.TheVariants.{Identity, FlipCols, FlipRows, RotateHalf, Transpose, RotateLeft, RotateRight, AntiTranspose}
use Rattle.grid_base.proofs.TableLemmas.{rows-tabulate, cols-tabulate, cell-tabulate, tabulate-same, IsFull-cells, cell_past_rows, cell_past_cols}
use Rattle.grid_base.proofs.ActLemmas.{act-tabulate, IsFull-image}
use Rattle.grid_base.proofs.StorageLemmas.{IsFull-table_of, storage-table_of, get-take, get-drop}
use Rattle.grid_view.specs.declared.axis.ViewAxis.{ViewAxis}
use Rattle.grid_view.specs.View.{offset, turned, cut, crossed, first_of, seen, seen_cell, sub_table, HoldsView}
use Rattle.grid_view.specs.Value.{ViewValue, view_value, IsFull-seen, place_within}
use Rattle.grid_base.proofs.ViewLemmas.{IsTable-prop, FitsUsize-prop}
use Rattle.grid_view.proofs.AxisLemmas as axis

module _ {T : Type 0} (rows cols : ViewAxis) (cells : List T) (h : HoldsView rows cols (length cells)) (v : ViewValue T) (e : view_value rows cols cells h ≡ v) where
  pub seen_rows : row_count v.rows ≡ rows.count
  seen_rows = ap (λ x. row_count x.rows) (sym e) ∙ rows-tabulate rows.count cols.count (seen_cell rows cols cells)

  pub seen_cols : col_count v.rows ≡ cols.count
  seen_cols = ap (λ x. col_count x.rows) (sym e) ∙ cols-tabulate rows.count cols.count (seen_cell rows cols cells) h.size (IsFull-seen rows cols cells h)

  pub seen_at : (r c : ℕ) → r < rows.count → c < cols.count → cell v.rows r c ≡ slice_get cells (offset rows r + offset cols c)
  seen_at r c lr lc = ap (λ x. cell x.rows r c) (sym e) ∙ cell-tabulate rows.count cols.count (seen_cell rows cols cells) r c (IsFull-seen rows cols cells h) lr lc

-- a slice that stores a table
module _ {T : Type 0} (m n : ℕ) (cells : List T) (h : HoldsSize m n (length cells)) where
  abbrev lines : ℕ → ℕ → ViewAxis
  lines count stride = record { count = count; stride = stride; backwards = false }

  by_rows : HoldsView (lines m n) (lines n 1) (length cells)
  by_rows = record {
    size = h.size;
    below = h.below;
    within = λ i j li lj. omega (arith, h.cells, axis.row_major_within m n i j li lj);
    row_steps = h.size.has_cols;
    col_steps = λ _. omega arith;
  }

  by_cols : HoldsView (lines m 1) (lines n m) (length cells)
  by_cols = record {
    size = h.size;
    below = h.below;
    within = λ i j li lj. omega (arith, h.cells, axis.col_major_within m n i j li lj);
    row_steps = λ _. omega arith;
    col_steps = h.size.has_rows;
  }

  seen_by_rows : seen (lines m n) (lines n 1) cells ≡ table_of RowMajor m n cells
  seen_by_rows = tabulate-same m n _ _ (λ r c lr lc. ap (slice_get cells) (omega arith)) (IsFull-table_of RowMajor m n cells h.cells)

  seen_by_cols : seen (lines m 1) (lines n m) cells ≡ table_of ColumnMajor m n cells
  seen_by_cols = tabulate-same m n _ _ (λ r c lr lc. ap (slice_get cells) (omega arith)) (IsFull-table_of ColumnMajor m n cells h.cells)

  pub holds_over : (o : Order) (s : ℕ × ℕ) → s ≡ strides_of o (m, n) → HoldsView (lines m s.0) (lines n s.1) (length cells)
  holds_over RowMajor s e = rw e by_rows
  holds_over ColumnMajor s e = rw e by_cols

  pub seen_over : (o : Order) (s : ℕ × ℕ) → s ≡ strides_of o (m, n) → seen (lines m s.0) (lines n s.1) cells ≡ table_of o m n cells
  seen_over RowMajor s e = rw e seen_by_rows
  seen_over ColumnMajor s e = rw e seen_by_cols

-- rows that lie one after another, without a gap
module _ {T : Type 0} (rows cols : ViewAxis) (cells : List T) (h : HoldsView rows cols (length cells)) (row_at : (r : ℕ) → r < rows.count → offset rows r ≡ r * cols.count) (col_at : (c : ℕ) → c < cols.count → offset cols c ≡ c * 1) where
  pub cells_within : rows.count * cols.count ≤ length cells
  cells_within = axis.all_within rows.count cols.count (length cells) (λ r c lr lc. omega (arith, place_within rows cols (length cells) h r c lr lc, row_at r lr, col_at c lc))

  pub seen_in_turn : take (rows.count * cols.count) cells ≡ concat_rows (seen rows cols cells)
  seen_in_turn =
      let m = rows.count in
      let n = cols.count in
      let all = take (m * n) cells in
      let len : length all ≡ m * n = length-take-le (m * n) cells cells_within in
      let at : (r c : ℕ) → r < m → c < n → slice_get all (r * n + c) ≡ slice_get cells (offset rows r + offset cols c) =
      λ r c lr lc.
      let same : r * n + c ≡ offset rows r + offset cols c = omega (arith, row_at r lr, col_at c lc) in
      get-take (m * n) cells (r * n + c) (omega (arith, axis.row_major_within m n r c lr lc)) ∙ ap (slice_get cells) same in
      sym (storage-table_of RowMajor m n all h.size len) ∙ ap concat_rows (tabulate-same m n _ _ at (IsFull-seen rows cols cells h))

-- a view that is turned
pub HoldsView-crossed : (rows cols : ViewAxis) (len : ℕ) → HoldsView rows cols len → HoldsView cols rows len
HoldsView-crossed rows cols len h = record {
  size = record { has_cols = h.size.has_rows; has_rows = h.size.has_cols };
  below = omega (arith, h.below, axis.mul-comm cols.count rows.count);
  within = λ i j li lj. omega (arith, h.within j i lj li);
  row_steps = h.col_steps;
  col_steps = h.row_steps;
}

-- a cell past the end
module _ {T : Type 0} (rows cols : ViewAxis) (cells : List T) (h : HoldsView rows cols (length cells)) where
  pub past_cols : (r c : ℕ) → r < rows.count → cols.count ≤ c → cell (seen rows cols cells) r c ≡ None
  past_cols r c lr lc = cell_past_cols rows.count cols.count _ r c (IsFull-seen rows cols cells h) lr lc

  pub past_rows : (r c : ℕ) → rows.count ≤ r → cell (seen rows cols cells) r c ≡ None
  past_rows r c lr = cell_past_rows (seen rows cols cells) r c (omega (arith, rows-tabulate rows.count cols.count (seen_cell rows cols cells)))

  pub there : (r c : ℕ) → r < rows.count → c < cols.count → cell (seen rows cols cells) r c ≡ slice_get cells (offset rows r + offset cols c)
  there r c lr lc = cell-tabulate rows.count cols.count (seen_cell rows cols cells) r c (IsFull-seen rows cols cells h) lr lc

  -- through a symmetry
  both : (p q : Bool) (r c : ℕ) → r < rows.count → c < cols.count → slice_get cells (offset (turned rows p) r + offset (turned cols q) c) ≡ slice_get cells (offset rows (counted p rows.count r) + offset cols (counted q cols.count c))
  both p q r c lr lc =
      ap (λ x. slice_get cells (x + offset (turned cols q) c)) (axis.offset_turned rows p r lr)
      ∙ ap (λ x. slice_get cells (offset rows (counted p rows.count r) + x)) (axis.offset_turned cols q c lc)

  across : (p q : Bool) (r c : ℕ) → r < cols.count → c < rows.count → slice_get cells (offset (turned cols p) r + offset (turned rows q) c) ≡ slice_get cells (offset rows (counted q rows.count c) + offset cols (counted p cols.count r))
  across p q r c lr lc =
      let swapped : offset (turned cols p) r + offset (turned rows q) c ≡ offset (turned rows q) c + offset (turned cols p) r = omega arith in
      ap (slice_get cells) swapped ∙ both q p c r lc lr

  abbrev m : ℕ
  m = rows.count

  abbrev n : ℕ
  n = cols.count

  image : (s : Symmetry) (a b : ViewAxis) → a.count ≡ image_rows s m n → b.count ≡ image_cols s m n → ((i j : ℕ) → i < image_rows s m n → j < image_cols s m n → slice_get cells (offset a i + offset b j) ≡ slice_get cells (offset rows (source_row s m n i j) + offset cols (source_col s m n i j))) → seen a b cells ≡ act s (seen rows cols cells)
  image s a b ea eb same =
      ap (λ x. tabulate x b.count (seen_cell a b cells)) ea
      ∙ (ap (λ x. tabulate (image_rows s m n) x (seen_cell a b cells)) eb
      ∙ (tabulate-same _ _ _ _ same (IsFull-image s m n _ (IsFull-seen rows cols cells h)) ∙ sym (act-tabulate s m n _ h.size (IsFull-seen rows cols cells h))))

  pub seen_act : (s : Symmetry) → seen (turned (crossed (flags_of s).0 rows cols).0 (flags_of s).1) (turned (crossed (flags_of s).0 rows cols).1 (flags_of s).2) cells ≡ act s (seen rows cols cells)
  seen_act Identity = image Identity (turned rows false) (turned cols false) refl refl (both false false)
  seen_act FlipCols = image FlipCols (turned rows false) (turned cols true) refl refl (both false true)
  seen_act FlipRows = image FlipRows (turned rows true) (turned cols false) refl refl (both true false)
  seen_act RotateHalf = image RotateHalf (turned rows true) (turned cols true) refl refl (both true true)
  seen_act Transpose = image Transpose (turned cols false) (turned rows false) refl refl (across false false)
  seen_act RotateLeft = image RotateLeft (turned cols true) (turned rows false) refl refl (across true false)
  seen_act RotateRight = image RotateRight (turned cols false) (turned rows true) refl refl (across false true)
  seen_act AntiTranspose = image AntiTranspose (turned cols true) (turned rows true) refl refl (across true true)

  pub seen_crossed : seen cols rows cells ≡ act Transpose (seen rows cols cells)
  seen_crossed = image Transpose cols rows refl refl (λ i j li lj. let swapped : offset cols i + offset rows j ≡ offset rows j + offset cols i = omega arith in ap (slice_get cells) swapped)

pub holds_turned : (rows cols : ViewAxis) (len : ℕ) (p q : Bool) → HoldsView rows cols len → HoldsView (turned rows p) (turned cols q) len
holds_turned rows cols len p q h = record { size = h.size; below = h.below; within = h.within; row_steps = h.row_steps; col_steps = h.col_steps }

pub holds_act : (rows cols : ViewAxis) (len : ℕ) (t p q : Bool) → HoldsView rows cols len → HoldsView (turned (crossed t rows cols).0 p) (turned (crossed t rows cols).1 q) len
holds_act rows cols len true p q h = holds_turned cols rows len p q (HoldsView-crossed rows cols len h)
holds_act rows cols len false p q h = holds_turned rows cols len p q h

-- a part of a view
abbrev pub start_of_row : ViewAxis → ℕ × ℕ → ℕ × ℕ → ℕ
start_of_row rows at size = first_of rows.backwards rows.count at.0 size.0 * rows.stride

abbrev pub start_of : ViewAxis → ViewAxis → ℕ × ℕ → ℕ × ℕ → ℕ
start_of rows cols at size = first_of rows.backwards rows.count at.0 size.0 * rows.stride + first_of cols.backwards cols.count at.1 size.1 * cols.stride

module _ (rows cols : ViewAxis) (len : ℕ) (h : HoldsView rows cols len) (at size : ℕ × ℕ) (rows_in : at.0 + size.0 ≤ rows.count) (cols_in : at.1 + size.1 ≤ cols.count) where
  abbrev start : ℕ
  start = start_of rows cols at size

  pub part_within : (i j : ℕ) → i < size.0 → j < size.1 → start + (i * rows.stride + j * cols.stride) < len
  part_within i j li lj =
      omega (arith, h.within (first_of rows.backwards rows.count at.0 size.0 + i) (first_of cols.backwards cols.count at.1 size.1 + j) (axis.first_within rows.backwards rows.count at.0 size.0 i rows_in li) (axis.first_within cols.backwards cols.count at.1 size.1 j cols_in lj))

  pub holds_part : (rest : ℕ) → rest ≡ len - start → 0 < size.0 → 0 < size.1 → HoldsView (cut rows size.0) (cut cols size.1) rest
  holds_part rest e some_rows some_cols = record {
    size = record { has_cols = λ _. some_cols; has_rows = λ _. some_rows };
    below = omega (arith, h.below, mul-le size.0 size.1 rows.count cols.count (omega arith) (omega arith));
    within = λ i j li lj. omega (arith, e, part_within i j li lj);
    row_steps = λ _. h.row_steps (omega arith);
    col_steps = λ _. h.col_steps (omega arith);
  }

pub seen_none : {T : Type 0} (rows cols : ViewAxis) (cells : List T) → seen (cut rows 0) (cut cols 0) cells ≡ []
unfolding tabulate
seen_none rows cols cells = refl

pub seen_part : {T : Type 0} (rows cols : ViewAxis) (cells : List T) (h : HoldsView rows cols (length cells)) (at size : ℕ × ℕ) → at.0 + size.0 ≤ rows.count → at.1 + size.1 ≤ cols.count → (rest : List T) → rest ≡ drop (start_of rows cols at size) cells → seen (cut rows size.0) (cut cols size.1) rest ≡ sub_table (seen rows cols cells) at size
seen_part rows cols cells h at size rows_in cols_in rest e =
    tabulate-same size.0 size.1 _ _
    (λ r c lr lc.
    let s = start_of rows cols at size in
    let p = counted rows.backwards size.0 r * rows.stride + counted cols.backwards size.1 c * cols.stride in
    let row_at = axis.counted_cut rows.backwards rows.count at.0 size.0 r rows_in lr in
    let col_at = axis.counted_cut cols.backwards cols.count at.1 size.1 c cols_in lc in
    let same : s + p ≡ offset rows (at.0 + r) + offset cols (at.1 + c) = omega (arith, ap (λ x. x * rows.stride) row_at, ap (λ x. x * cols.stride) col_at) in
    ap (λ x. slice_get x p) e
    ∙ (get-drop s cells (s + p) p refl ∙ (ap (slice_get cells) same ∙ sym (there rows cols cells h (at.0 + r) (at.1 + c) (omega arith) (omega arith)))))
    (record { full = λ r c lr lc. ap is_some (there rows cols cells h (at.0 + r) (at.1 + c) (omega arith) (omega arith)) ∙ (IsFull-seen rows cols cells h).full (at.0 + r) (at.1 + c) (omega arith) (omega arith) })

pub cols-sub_table : {T : Type 0} (t : List (List T)) (at size : ℕ × ℕ) → IsTable t → at.0 + size.0 ≤ row_count t → at.1 + size.1 ≤ col_count t → 0 < size.0 → 0 < size.1 → col_count (sub_table t at size) ≡ size.1
cols-sub_table t at size h rows_in cols_in some_rows some_cols =
    cols-tabulate size.0 size.1 _ (record { has_cols = λ _. some_cols; has_rows = λ _. some_rows })
    (record { full = λ r c lr lc. (IsFull-cells t h).full (at.0 + r) (at.1 + c) (omega (arith, rows_in, lr)) (omega (arith, cols_in, lc)) })

-- the number of lines of a part, which has none where it has none of the others
pub part_some : (m n : ℕ) → 0 < n → m ≡ (if n == 0 then 0 else m)
part_some m n some = grind (arith, nat_tests)

pub part_none : (m n : ℕ) → (m ≡ 0) ⊎ (n ≡ 0) → 0 ≡ (if n == 0 then 0 else m)
part_none m n none = grind (arith, nat_tests)

-- no rows, by their number
pub empty_by_test : {T : Type 0} (t : List (List T)) → IsTrue (nat_eq (row_count t) 0) ↔ (t ≡ [])
empty_by_test t = (λ h. nil_from_length t (eqb-true (row_count t) 0 h), λ e. eq-eqb (row_count t) 0 (ap length e))

-- two values with the same rows are one
pub same_view_value : {T : Type 0} (s u : ViewValue T) → s.rows ≡ u.rows → s ≡ u
same_view_value s u rows =
    let table : PathP (λ i. IsTable (rows i)) s.table u.table = is_prop→PathP (λ i. IsTable (rows i)) (λ i. IsTable-prop (rows i)) s.table u.table in
    let fits : PathP (λ i. FitsUsize (row_count (rows i)) (col_count (rows i))) s.fits u.fits =
    is_prop→PathP (λ i. FitsUsize (row_count (rows i)) (col_count (rows i))) (λ i. FitsUsize-prop (row_count (rows i)) (col_count (rows i))) s.fits u.fits in
    λ i. record { rows = rows i; table = table i; fits = fits i }
