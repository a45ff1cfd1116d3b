-- Cells that are taken over by another grid.
use Rattle.std.proofs.Common.{◌≡◌, ◌⊎◌, ◌↔◌, ℕ, ◌+◌, ◌-◌, ◌*◌, ◌<◌, ◌≤◌, Bool, true, false, IsTrue, if◌then◌else◌, Option, Some, None, List, [], ◌++◌, take, length, All, refl, sym, ◌∙◌, ap, arith, ⊎_elim, subst, slice_get, unwrap_or, IsSome, length-take-le, get_or-take, append-nil}
use Rattle.grid.proofs.Common.{cases_lt, cases_eq, slice_get_cases, drop_all, nil_from_length, All-get_or, row, row_count, col_count, cell, tabulate, InRange, IsTable, storage, place, GridValue, act, length-storage, get-storage, place_within, HasSize, without_rows, InRows, PartTaken, IsCorner, IsResized, ResizesTo, cell_or, IsFull-cells, rows-tabulate, tabulate-cells, tabulate-same, cell_past_rows}
use Rattle.grid_base.specs.declared.order.Order.{Order}
use Rattle.grid_base.specs.declared.words.Symmetry.TheVariants.{Transpose}
use Rattle.grid.proofs.ExchangeLemmas.{corner_taken, corner_kept}
use Rattle.grid.proofs.SplitLemmas.{times_none}
use Rattle.grid.proofs.ColEditLemmas.{rows-across, cols-across, cell-cross}

pub product_some : (m n : ℕ) → 0 < m → 0 < n → 0 < m * n
product_some m n a b =
    let e : m ≡ 1 + (m - 1) = omega (arith, a) in
    let product : m * n ≡ (1 + (m - 1)) * n = ap (λ x. x * n) e in
    omega (arith, product, b)

module _ {T : Type 0} where
  -- each cell of a table whose storage is as P says
  stored_cell : (P : T → Type 0) (o : Order) (t : List (List T)) → IsTable t → All P (storage o t) → (r c : ℕ) → InRange t r c → (x : T) × (cell t r c ≡ Some x) × P x
  stored_cell P o t h all r c p =
      let xs = storage o t in
      let k = place o (row_count t) (col_count t) r c in
      let small : k < length xs = omega (arith, place_within o (row_count t) (col_count t) r c p.0 p.1, length-storage o t h) in
      let is : slice_get xs k ≡ cell t r c = get-storage o t r c h p.0 p.1 in
      ⊎_elim {C = (x : T) × (cell t r c ≡ Some x) × P x} (λ w. (w.0, sym is ∙ w.2, subst P w.3 (All-get_or P xs k w.0 small all))) (λ past. absurd (omega (arith, small, past.0))) (slice_get_cases xs k).1

  pub resized : (P : T → Type 0) (m n a b : ℕ) (to from new left : GridValue T) → 0 < m * n → HasSize m n to.rows → All P (storage to.order to.rows) → PartTaken (InRows a b) (0, 0) to from new left → a ≤ m → a ≤ row_count from.rows → (m ≤ a) ⊎ (row_count from.rows ≤ a) → b ≤ n → b ≤ col_count from.rows → (n ≤ b) ⊎ (col_count from.rows ≤ b) → IsResized P m n from.rows new.rows
  resized P m n a b to from new left some size all h am ar arest bn bc brest =
      let rows : row_count to.rows ≡ m = size.rows (λ z. omega (arith, some, z)) in
      let cols : col_count to.rows ≡ n = size.cols (λ z. omega (arith, some, z)) in
      record {
        size = record {
          none = λ z. absurd (omega (arith, some, z));
          rows = λ z. h.rows ∙ rows;
          cols = λ z. h.cols ∙ cols;
        };
        kept = λ r c p q. corner_taken (InRows a b) to from new left h r c (within a m (row_count from.rows) r arest (omega (arith, q.0, h.rows, rows)) p.0, within b n (col_count from.rows) c brest (omega (arith, q.1, h.cols, cols)) p.1);
        fresh = λ r c q out.
            let found = stored_cell P to.order to.rows to.table all r c (omega (arith, q.0, h.rows), omega (arith, q.1, h.cols)) in
            (found.0, corner_kept (InRows a b) to from new left h r c (λ i. out (omega (arith, i.0, ar), omega (arith, i.1, bc))) ∙ found.1, found.2);
      }
    where
      within : (a m k r : ℕ) → (m ≤ a) ⊎ (k ≤ a) → r < m → r < k → r < a
      within a m k r e lm lk = ⊎_elim {C = r < a} (λ x. omega (arith, x, lm)) (λ x. omega (arith, x, lk)) e

  -- the first rows of a table
  pub corner_rows : (b : Bool) (m k : ℕ) (t new : List (List T)) → IsTrue b ↔ (m + k ≤ row_count t) → new ≡ (if b then without_rows m k t else t) → 0 < m → m + k ≡ row_count t → IsCorner m (col_count t) t new
  corner_rows false m k t new found is some all =
      let no : false ≡ true = found.1 (omega (arith, all)) in
      absurd (cc)
  corner_rows true m k t new found is some all =
      let front : new ≡ take m t = is ∙ (ap (λ x. take m t ++ x) (drop_all (m + k) t (omega (arith, all))) ∙ append-nil (take m t)) in
      record {
        rows = ap length front ∙ length-take-le m t (omega (arith, all));
        cols = ap col_count front ∙ ap length (get_or-take m t 0 [] some);
        cells = λ r c lr lc. ap (λ x. cell x r c) front ∙ ap (λ x. slice_get x c) (get_or-take m t r [] lr);
      }

  -- the first rows, and then the first columns
  pub corner_both : (m n : ℕ) (t one mid less new : List (List T)) → IsTable one → IsTable less → IsCorner m (col_count t) t one → mid ≡ act Transpose one → IsCorner n (col_count mid) mid less → new ≡ act Transpose less → n ≤ col_count t → 0 < m → IsCorner m n t new
  corner_both m n t one mid less new h k first turned second back le some =
      let tall : col_count mid ≡ m = ap col_count turned ∙ (cols-across one h ∙ first.rows) in
      record {
        rows = ap row_count back ∙ (rows-across less k ∙ (second.cols ∙ tall));
        cols = ap col_count back ∙ (cols-across less k ∙ second.rows);
        cells = λ r c lr lc.
            ap (λ x. cell x r c) back
            ∙ (cell-cross less k r c
            ∙ (second.cells c r lc (omega (arith, tall))
            ∙ (ap (λ x. cell x c r) turned
            ∙ (cell-cross one h c r ∙ first.cells r c lr (omega (arith, le))))));
      }

  pub corner_resized : (P : T → Type 0) (m n : ℕ) (t new : List (List T)) → 0 < m → 0 < n → m ≤ row_count t → n ≤ col_count t → IsCorner m n t new → IsResized P m n t new
  corner_resized P m n t new rows cols in_rows in_cols i =
      record {
        size = record {
          none = λ z. absurd (omega (arith, z, product_some m n rows cols));
          rows = λ z. i.rows;
          cols = λ z. i.cols;
        };
        kept = λ r c p q. i.cells r c (omega (arith, q.0, i.rows)) (omega (arith, q.1, i.cols));
        fresh = λ r c q out. absurd (out (omega (arith, q.0, i.rows, in_rows), omega (arith, q.1, i.cols, in_cols)));
      }

  cell_past : (t : List (List T)) (r c : ℕ) → IsTable t → (InRange t r c → ⊥) → cell t r c ≡ None
  cell_past t r c h out =
      ⊎_elim {C = cell t r c ≡ None}
      (λ lt. ⊎_elim {C = cell t r c ≡ None} (λ w. absurd (out (lt, omega (arith, w.1, h.even r lt)))) (λ past. past.1) (slice_get_cases (row t r) c).1)
      (λ ge. cell_past_rows t r c ge) (cases_lt r (row_count t))

  some_or : (o : Option T) (d : T) → IsSome o → o ≡ Some (unwrap_or o d)
  some_or (Some x) d some = refl
  some_or None d none = absurd (cc)

  -- where a type has one default, the whole table is known
  module _ (P : T → Type 0) (m n : ℕ) (old new : List (List T)) (d : T) (h : IsTable old) (k : IsTable new) (only : (x : T) → P x → x ≡ d) (i : IsResized P m n old new) where
    resized_cell : (r c : ℕ) → InRange new r c → cell new r c ≡ cell_or d old r c
    resized_cell r c q =
        ⊎_elim {C = cell new r c ≡ cell_or d old r c}
        (λ lr. ⊎_elim {C = cell new r c ≡ cell_or d old r c} (λ lc. i.kept r c (lr, lc) q ∙ some_or (cell old r c) d ((IsFull-cells old h).full r c lr lc)) (λ gc. outside (λ p. omega (arith, p.1, gc))) (cases_lt c (col_count old)))
        (λ gr. outside (λ p. omega (arith, p.0, gr))) (cases_lt r (row_count old))
      where
        outside : (InRange old r c → ⊥) → cell new r c ≡ cell_or d old r c
        outside out =
            let w = i.fresh r c q out in
            w.1 ∙ (ap Some (only w.0 w.2) ∙ sym (ap (λ o. Some (unwrap_or o d)) (cell_past old r c h out)))

    resized_some : 0 < m → 0 < n → new ≡ tabulate m n (cell_or d old)
    resized_some some_rows some_cols =
        let some = product_some m n some_rows some_cols in
        let rows : row_count new ≡ m = i.size.rows (λ z. omega (arith, some, z)) in
        let cols : col_count new ≡ n = i.size.cols (λ z. omega (arith, some, z)) in
        sym (tabulate-cells new k)
        ∙ (ap (λ x. tabulate x (col_count new) (cell new)) rows
        ∙ (ap (λ x. tabulate m x (cell new)) cols
        ∙ tabulate-same m n (cell new) (cell_or d old) (λ r c lr lc. resized_cell r c (omega (arith, rows), omega (arith, cols))) (record { full = λ r c lr lc. refl })))

    resized_tabulated : 0 < n → new ≡ tabulate m n (cell_or d old)
    resized_tabulated some =
        ⊎_elim {C = new ≡ tabulate m n (cell_or d old)}
        (λ none. i.size.none (times_none m n none) ∙ sym (nil_from_length (tabulate m n (cell_or d old)) (rows-tabulate m n (cell_or d old) ∙ none)))
        (λ more. resized_some (omega arith) some) (cases_eq m 0)

  pub resizes_to : (P : T → Type 0) (m n : ℕ) (old new : List (List T)) → IsTable old → IsTable new → IsResized P m n old new → ResizesTo P m n old new
  resizes_to P m n old new h k i = record {
    cells = i;
    one_default = λ d only some. resized_tabulated P m n old new d h k only i some;
    rows = λ some. rows some;
    cols = λ some. cols some;
  }
    where
      rows : 0 < n → row_count new ≡ m
      rows some =
          ⊎_elim {C = row_count new ≡ m}
          (λ none. ap row_count (i.size.none (times_none m n none)) ∙ sym none)
          (λ more. let all = product_some m n (omega arith) some in i.size.rows (λ z. omega (arith, all, z))) (cases_eq m 0)

      cols : 0 < m → col_count new ≡ n
      cols some =
          ⊎_elim {C = col_count new ≡ n}
          (λ none. ap col_count (i.size.none (ap (λ x. m * x) none ∙ omega arith)) ∙ sym none)
          (λ more. let all = product_some m n some (omega arith) in i.size.cols (λ z. omega (arith, all, z))) (cases_eq n 0)
