-- Changes of a board that are taken back: a cell, two cells, lines, a symmetry.
use Rattle.std.proofs.Common.{◌≡◌, ◌≢◌, ℕ, ◌+◌, ◌-◌, ◌*◌, ◌<◌, ◌≤◌, ◌⊎◌, IsTrue, Some, List, [], length, take, drop, refl, sym, ◌∙◌, ap, subst, arith, inl, inr, ⊎_elim, slice_get, swap, length-take-le, length-drop, Result, Ok, Err, OnOk, IfOk}
use Rattle.std.proofs.Math.Nat.{add-mul, mul_comm, mul-le-mul, zero-mul}
use Rattle.grid.proofs.Common.{row_count, col_count, rows-act, cols-act, cell, with_cell, exchanged, IsTable, InRange, GridValue, HoldsSize, storage, place, table_of, act, cases_eq, nil_from_length, by_storage, length-storage, place_within, view-swap, same_cells, IsSize-table, IsTable-act, FitsRow, insert_rows, without_rows, order_after-order_after, get-take, get-drop}
use Rattle.grid.proofs.CellWriteLemmas.{with_cell_back}
use Rattle.grid.proofs.ListEditLemmas.{get_or-same}
use Rattle.grid.proofs.ColEditLemmas.{across-across}
use Rattle.grid.proofs.EditSizeLemmas.{LinesFit, cols-put_lines, cols-take, IsTable-take, IsTable-put}
use Rattle.grid.proofs.RowEditLemmas.{rows-take}
use Rattle.grid.proofs.SplitLemmas.{IsTable-tail, take_without}
use Rattle.grid_base.proofs.SwapLemmas.{get-swap_first, get-swap_second, get-swap_other}
use Rattle.std.proofs.lemmas.List.Edits.{length-swap}
use Rattle.grid_base.proofs.GroupLemmas.{inverse_acts, inverse_is}
use Rattle.grid_base.proofs.WriteLemmas.{rows-written, cols-with_cell}
use Rattle.grid_base.specs.GridValue.{SameSizeAndOrder}
use Rattle.grid_base.specs.Symmetry.{IsInverse, order_after}
use Rattle.grid_base.specs.declared.order.Order.{Order}
use Rattle.grid_base.specs.declared.order.Order.TheVariants.{RowMajor}
use Rattle.grid_base.specs.declared.words.Symmetry.{Symmetry}
use Rattle.grid_base.specs.declared.words.Symmetry.TheVariants.{Transpose}
use Rattle.grid_commands.specs.declared.command.Axis.{Axis}
use Rattle.grid_commands.specs.declared.command.Axis.TheVariants.{Row, Col}
use Rattle.grid_changes.specs.declared.change.Change.{Change}
use Rattle.grid_changes.specs.declared.change.Change.TheVariants as the
use Rattle.grid_changes.specs.Timeline.{Board, board_of, cell_count}
use Rattle.grid_changes.specs.Change.{Fits, after, is_of_lines, lines_of, with_lines, less_lines, FitsLines, HasLines, Inverts}
use Rattle.grid_changes.proofs.RollLemmas.{part_back, out_again, length_put}

-- a list of which two items changed places twice
swap_back : {X : Type 0} (xs : List X) (i j : ℕ) → i < length xs → j < length xs → swap (swap xs i j) i j ≡ xs
swap_back xs i j li lj =
    let once : length (swap xs i j) ≡ length xs = length-swap xs i j in
    let twice : length (swap (swap xs i j) i j) ≡ length (swap xs i j) = length-swap (swap xs i j) i j in
    let ki : i < length (swap xs i j) = omega (arith, once, li) in
    let kj : j < length (swap xs i j) = omega (arith, once, lj) in
    same_cells (swap (swap xs i j) i j) xs (twice ∙ once)
    (λ k lt.
    ⊎_elim {C = slice_get (swap (swap xs i j) i j) k ≡ slice_get xs k}
    (λ e. ap (slice_get (swap (swap xs i j) i j)) e ∙ (get-swap_first (swap xs i j) i j ki kj ∙ (get-swap_second xs i j li lj ∙ ap (slice_get xs) (sym e))))
    (λ ne.
    ⊎_elim {C = slice_get (swap (swap xs i j) i j) k ≡ slice_get xs k}
    (λ e. ap (slice_get (swap (swap xs i j) i j)) e ∙ (get-swap_second (swap xs i j) i j ki kj ∙ (get-swap_first xs i j li lj ∙ ap (slice_get xs) (sym e))))
    (λ nf. get-swap_other (swap xs i j) i j k ki kj ne nf ∙ get-swap_other xs i j k li lj ne nf)
    (cases_eq k j))
    (cases_eq k i))

-- more lines, or lines where there were none, are more cells
cells_more : (m k n p : ℕ) → 0 < k → 0 < p → (m ≡ 0) ⊎ (n ≡ p) → m * n < (m + k) * p
cells_more m k n p some wide e =
    let more : 0 < k * p = mul-le-mul some wide in
    let sum : (m + k) * p ≡ m * p + k * p = add-mul m k p in
    ⊎_elim {C = m * n < (m + k) * p}
    (λ none. let zero : m * n ≡ 0 = ap (λ x. x * n) none ∙ zero-mul n in omega (arith, zero, sum, more))
    (λ same. let equal : m * n ≡ m * p = ap (λ x. m * x) same in omega (arith, equal, sum, more))
    e

-- a symmetry is taken back
pub order_back : (s v : Symmetry) (o : Order) → IsInverse s v → order_after v (order_after s o) ≡ o
order_back s v o e = order_after-order_after s v o ∙ ap (λ x. order_after x o) (inverse_is s v e)

module _ {T : Type 0} where
  pub exchanged_back : (g : GridValue T) (a b : ℕ × ℕ) → InRange g.rows a.0 a.1 → InRange g.rows b.0 b.1 → exchanged (exchanged g.rows a b) a b ≡ g.rows
  exchanged_back g a b ia ib =
      let t = g.rows in
      let m = row_count t in
      let n = col_count t in
      let cells = storage RowMajor t in
      let len : length cells ≡ m * n = length-storage RowMajor t g.table in
      let i = place RowMajor m n a.0 a.1 in
      let j = place RowMajor m n b.0 b.1 in
      let li : i < length cells = omega (arith, len, place_within RowMajor m n a.0 a.1 ia.0 ia.1) in
      let lj : j < length cells = omega (arith, len, place_within RowMajor m n b.0 b.1 ib.0 ib.1) in
      let h : HoldsSize m n (length cells) = record { cells = len; below = g.fits.cells; size = IsSize-table t g.table } in
      let k : HoldsSize m n (length (swap cells i j)) = record { cells = length-swap cells i j ∙ len; below = g.fits.cells; size = IsSize-table t g.table } in
      let is : t ≡ table_of RowMajor m n cells = by_storage RowMajor t g.table in
      let once : table_of RowMajor m n (swap cells i j) ≡ exchanged (table_of RowMajor m n cells) a b = view-swap RowMajor m n cells h a b ia.0 ia.1 ib.0 ib.1 in
      let twice : table_of RowMajor m n (swap (swap cells i j) i j) ≡ exchanged (table_of RowMajor m n (swap cells i j)) a b = view-swap RowMajor m n (swap cells i j) k a b ia.0 ia.1 ib.0 ib.1 in
      ap (λ v. exchanged (exchanged v a b) a b) is
      ∙ (ap (λ v. exchanged v a b) (sym once)
      ∙ (sym twice ∙ (ap (table_of RowMajor m n) (swap_back cells i j li lj) ∙ sym is)))

  -- the lines of an axis
  pub lines-lines : (a : Axis) (t : List (List T)) → IsTable t → lines_of a (lines_of a t) ≡ t
  lines-lines Row t h = refl
  lines-lines Col t h = across-across t h

  pub IsTable-lines : (a : Axis) (t : List (List T)) → IsTable t → IsTable (lines_of a t)
  IsTable-lines Row t h = h
  IsTable-lines Col t h = IsTable-act Transpose t h

  -- rows that were put in are there, and are the ones that are taken out again
  pub has_put : (a : Axis) (i : ℕ) (ls t u : List (List T)) → IsTable t → u ≡ with_lines a i ls t → IsTable (insert_rows i ls (lines_of a t)) → FitsLines a i ls t → HasLines a i (row_count ls) u
  has_put a i ls t u h e k f =
      let v = lines_of a t in
      let back : lines_of a u ≡ insert_rows i ls v = ap (lines_of a) e ∙ lines-lines a (insert_rows i ls v) k in
      record { some = f.some; within = omega (arith, f.point, ap length back, length_put i (row_count ls) v ls f.point refl) }

  pub put_taken : (a : Axis) (i k : ℕ) (ls t u : List (List T)) → IsTable t → u ≡ with_lines a i ls t → IsTable (insert_rows i ls (lines_of a t)) → FitsLines a i ls t → k ≡ row_count ls → less_lines a i k u ≡ t
  put_taken a i k ls t u h e table f count =
      let v = lines_of a t in
      let back : lines_of a u ≡ insert_rows i ls v = ap (lines_of a) e ∙ lines-lines a (insert_rows i ls v) table in
      ap (λ w. lines_of a (without_rows i k w)) back
      ∙ (ap (lines_of a) (out_again i k v ls f.point count) ∙ lines-lines a t h)

  -- rows that were taken out fit where they were, and leave the table as it was
  module _ (i k : ℕ) (v : List (List T)) (h : IsTable v) (le : i + k ≤ row_count v) where
    part_width : 0 < row_count (take k (drop i v)) → col_count (take k (drop i v)) ≡ col_count v
    part_width some =
        let len : row_count (take k (drop i v)) ≡ k = length-take-le k (drop i v) (omega (arith, le, length-drop i v)) in
        let more : 0 < k = omega (arith, len, some) in
        ap length (get_or-same (take k (drop i v)) v 0 i [] (get-take k (drop i v) 0 more ∙ get-drop i v i 0 (omega arith)))
        ∙ h.even i (omega (arith, more, le))

    part_fits : 0 < row_count (take k (drop i v)) → FitsRow (without_rows i k v) (col_count (take k (drop i v)))
    part_fits some =
        ⊎_elim {C = FitsRow (without_rows i k v) (col_count (take k (drop i v)))}
        (λ none. inl (nil_from_length (without_rows i k v) none))
        (λ more. inr (part_width some ∙ sym (cols-take i k v h le (omega (arith, rows-take i k v le, more)))))
        (cases_eq (row_count (without_rows i k v)) 0)

  module _ (a : Axis) (i k : ℕ) (ls t u : List (List T)) (h : IsTable t) (w : HasLines a i k t) (less : u ≡ less_lines a i k t) (taken : ls ≡ take k (drop i (lines_of a t))) where
    lines_left : lines_of a u ≡ without_rows i k (lines_of a t)
    lines_left = ap (lines_of a) less ∙ lines-lines a (without_rows i k (lines_of a t)) (IsTable-take i k (lines_of a t) (IsTable-lines a t h) w.within)

    part_count : row_count (take k (drop i (lines_of a t))) ≡ k
    part_count = length-take-le k (drop i (lines_of a t)) (omega (arith, w.within, length-drop i (lines_of a t)))

    pub taken_fits : FitsLines a i ls u
    taken_fits =
        let more : 0 < row_count (take k (drop i (lines_of a t))) = omega (arith, part_count, w.some) in
        let fits : FitsRow (without_rows i k (lines_of a t)) (col_count ls) = subst (λ x. FitsRow (without_rows i k (lines_of a t)) (col_count x)) (sym taken) (part_fits i k (lines_of a t) (IsTable-lines a t h) w.within more) in
        record {
          some = omega (arith, ap length taken, more);
          point = omega (arith, w.within, ap length lines_left, rows-take i k (lines_of a t) w.within);
          width = subst (λ x. FitsRow x (col_count ls)) (sym lines_left) fits;
        }

    pub taken_back : with_lines a i ls u ≡ t
    taken_back =
        ap (λ x. lines_of a (insert_rows i ls x)) lines_left
        ∙ (ap (λ x. lines_of a (insert_rows i x (without_rows i k (lines_of a t)))) taken
        ∙ (ap (lines_of a) (part_back i k (lines_of a t) w.within) ∙ lines-lines a t h))

  -- rows that fit leave a table
  lines_that_fit : (a : Axis) (i : ℕ) (ls t : List (List T)) → IsTable t → IsTable ls → FitsLines a i ls t → LinesFit i ls (lines_of a t)
  lines_that_fit a i ls t h k f = record {
    in_rows = f.point;
    old = IsTable-lines a t h;
    new = k;
    width = λ some more. ⊎_elim (λ none. absurd (omega (arith, ap row_count none, some))) (λ e. e) f.width;
  }

  pub IsTable-with_lines : (a : Axis) (i : ℕ) (ls t : List (List T)) → IsTable t → IsTable ls → FitsLines a i ls t → IsTable (insert_rows i ls (lines_of a t))
  IsTable-with_lines a i ls t h k f = IsTable-put i ls (lines_of a t) (lines_that_fit a i ls t h k f)

  -- lines that are a part of a table
  IsTable-part : (i k : ℕ) (v : List (List T)) → IsTable v → i + k ≤ row_count v → IsTable (take k (drop i v))
  IsTable-part i k v h le =
      let count : row_count (drop i v) ≡ row_count v - i = length-drop i v in
      let tail : IsTable (drop i v) = IsTable-tail v h i (omega (arith, le)) in
      subst IsTable (sym (take_without k (drop i v) (omega (arith, le, count))))
      (IsTable-take k (row_count (drop i v) - k) (drop i v) tail (omega (arith, le, count)))

  -- lines that are put in or taken out change how many cells there are
  cells-lines : (a : Axis) (t : List (List T)) → IsTable t → cell_count (lines_of a t) ≡ cell_count t
  cells-lines Row t h = refl
  cells-lines Col t h = (λ i. rows-act Transpose t i * cols-act Transpose t h i) ∙ mul_comm (col_count t) (row_count t)

  pub more_cells : (a : Axis) (i : ℕ) (ls t : List (List T)) → IsTable t → IsTable ls → FitsLines a i ls t → cell_count t < cell_count (with_lines a i ls t)
  more_cells a i ls t h k f =
      let v = lines_of a t in
      let new = insert_rows i ls v in
      let fit = lines_that_fit a i ls t h k f in
      let rows : row_count new ≡ row_count v + row_count ls = length_put i (row_count ls) v ls f.point refl in
      let cols : col_count new ≡ col_count ls = cols-put_lines i ls v fit f.some in
      let less : cell_count v < (row_count v + row_count ls) * col_count ls =
      cells_more (row_count v) (row_count ls) (col_count v) (col_count ls) f.some (k.nonempty 0 f.some) (⊎_elim (λ none. inl (ap length none)) (λ e. inr (sym e)) f.width) in
      let there : cell_count new ≡ (row_count v + row_count ls) * col_count ls = λ j. rows j * cols j in
      omega (arith, less, there, cells-lines a t h, cells-lines a new (IsTable-with_lines a i ls t h k f))

  pub fewer_cells : (a : Axis) (i k : ℕ) (t : List (List T)) → IsTable t → HasLines a i k t → cell_count (less_lines a i k t) < cell_count t
  fewer_cells a i k t h w =
      let v = lines_of a t in
      let u = less_lines a i k t in
      let ls = take k (drop i v) in
      let table = IsTable-lines a t h in
      let left : IsTable u = IsTable-lines a (without_rows i k v) (IsTable-take i k v table w.within) in
      let back : with_lines a i ls u ≡ t = taken_back a i k ls t u h w refl refl in
      let more = more_cells a i ls u left (IsTable-part i k v table w.within) (taken_fits a i k ls t u h w refl refl) in
      omega (arith, more, ap cell_count back)

-- what holds of an answer, by what holds beside it and of it
pub ok_both : {X E : Type 0} {Q : Type 0} {P R : X → Type 0} (r : Result X E) → OnOk r Q → IfOk r P → ((x : X) → Q → P x → R x) → IfOk r R
ok_both (Ok x) q p h = h x q p
ok_both (Err e) q p h = tt

-- two boards of one order with the same rows
pub same_board : {T : Type 0} (b c : Board T) → b.rows ≡ c.rows → b.order ≡ c.order → b ≡ c
same_board b c rows order = λ i. record { rows = rows i; order = order i }

-- what takes each change back
module _ {T A : Type 0} (g : GridValue T) where
  pub write_inverts : (r c : ℕ) (w x : T) → InRange g.rows r c → cell g.rows r c ≡ Some x → Inverts {A = A} (the.Write r c x) (record { rows = with_cell g.rows r c w; order = g.order }) (board_of g)
  write_inverts r c w x within was = record {
    fits = (omega (arith, within.0, rows-written g.rows r c w), omega (arith, within.1, cols-with_cell g.rows g.table r c w));
    leads = same_board _ _ (with_cell_back g.rows r c w x within.0 was) refl;
  }

  module _ (new : GridValue T) where
    pub exchange_inverts : (p q : ℕ × ℕ) → InRange g.rows p.0 p.1 → InRange g.rows q.0 q.1 → new.rows ≡ exchanged g.rows p q → SameSizeAndOrder g new → Inverts {A = A} (the.Exchange p q) (board_of new) (board_of g)
    exchange_inverts p q ip iq rows same = record {
      fits = ((omega (arith, same.rows, ip.0), omega (arith, same.cols, ip.1)), (omega (arith, same.rows, iq.0), omega (arith, same.cols, iq.1)));
      leads = same_board _ _ (ap (λ v. exchanged v p q) rows ∙ exchanged_back g p q ip iq) same.order;
    }

    pub put_inverts : (a : Axis) (i k : ℕ) (ls : List (List T)) → IsTable ls → FitsLines a i ls g.rows → k ≡ row_count ls → new.rows ≡ with_lines a i ls g.rows → new.order ≡ g.order → Inverts {A = A} (the.Take a i k) (board_of new) (board_of g)
    put_inverts a i k ls h f count rows order =
        let table = IsTable-with_lines a i ls g.rows g.table h f in
        let there : HasLines a i (row_count ls) new.rows = has_put a i ls g.rows new.rows g.table rows table f in
        record {
          fits = subst (λ n. HasLines a i n new.rows) (sym count) there;
          leads = same_board _ _ (put_taken a i k ls g.rows new.rows g.table rows table f count) order;
        }

    pub turn_inverts : (s v : Symmetry) → IsInverse s v → new.rows ≡ act s g.rows → new.order ≡ order_after s g.order → Inverts {A = A} (the.Turn v) (board_of new) (board_of g)
    turn_inverts s v e rows order = record {
      fits = tt;
      leads = same_board _ _ (ap (act v) rows ∙ inverse_acts s v e g.rows g.table) (ap (order_after v) order ∙ order_back s v g.order e);
    }

-- a change of lines changes how many cells there are
module _ {T A : Type 0} where
  pub other_count : (x : Change T A) (g : GridValue T) → Fits x (board_of g) → IsTrue (is_of_lines x) → cell_count (after x (board_of g)).rows ≢ cell_count g.rows
  other_count (the.Put a i ls) g f is = λ e. omega (arith, e, more_cells a i ls.rows g.rows g.table ls.table f)
  other_count (the.Take a i k) g f is = λ e. omega (arith, e, fewer_cells a i k g.rows g.table f)
  other_count (the.Write r c v) g f is = absurd (cc is)
  other_count (the.Exchange p q) g f is = absurd (cc is)
  other_count (the.Turn s) g f is = absurd (cc is)
  other_count (the.Replace b) g f is = absurd (cc is)
