-- The cells from a position on that another board doesn't have there, and what a search along a row passes over.
use Rattle.std.proofs.Common.{◌≡◌, ℕ, zero, suc, ◌+◌, ◌-◌, ◌*◌, ◌<◌, ◌≤◌, Bool, true, false, not, Some, List, [], ◌∷◌, length, drop, ◌∙◌, ap, arith, ⊎_elim, slice_get, cond}
use Rattle.std.proofs.Math.ListN.{drop_of_length-le}
use Rattle.std.proofs.Math.Nat.{add-mul, mul-le-mul_right, zero-mul}
use Rattle.std.proofs.lemmas.Option.{slice_get_cases}
use Rattle.grid.proofs.Common.{row, row_count, col_count, cell, IsTable, storage, positions, get-places, get-zip, get-storage, length-storage, IsSize-table}
use Rattle.grid_base.proofs.PlacedCellLemmas.{zip_within}
use Rattle.grid_base.specs.Iterators.{indexed_cells}
use Rattle.grid_base.specs.declared.order.Order.TheVariants.{RowMajor}
use Rattle.grid_changes.specs.Differences.{is_cell, new_cells, changed_cells, cells_left, IsNextChange}
use Rattle.grid_changes.proofs.StepLemmas.{drop_one}

module _ {T : Type 0} (same : T → T → Bool) (t u : List (List T)) (hu : IsTable u) where
  abbrev all : List ((ℕ × ℕ) × T)
  all = indexed_cells RowMajor u

  -- the cell at a position comes first from there on
  first_is : (r c : ℕ) (x : T) → r < row_count u → c < col_count u → cell u r c ≡ Some x → drop (r * col_count u + c) all ≡ ((r, c), x) ∷ drop (r * col_count u + (c + 1)) all
  first_is r c x lr lc e =
      let m = row_count u in
      let n = col_count u in
      let k = r * n + c in
      let there : slice_get (positions RowMajor m n) k ≡ Some (r, c) = get-places RowMajor m n r c (IsSize-table u hu) lr lc in
      let stored : slice_get (storage RowMajor u) k ≡ Some x = get-storage RowMajor u r c hu lr lc ∙ e in
      let found : slice_get all k ≡ Some ((r, c), x) = get-zip (positions RowMajor m n) (storage RowMajor u) k (r, c) x there stored in
      let next : suc k ≡ r * n + (c + 1) = omega arith in
      drop_one all k ((r, c), x) found ∙ ap (λ j. ((r, c), x) ∷ drop j all) next

  -- by whether it is there in the other board
  one_left : (r c : ℕ) (x : T) (b : Bool) → r < row_count u → c < col_count u → cell u r c ≡ Some x → is_cell same (cell t r c) x ≡ b → cells_left same t u r c ≡ cond (not b) (((r, c), x) ∷ cells_left same t u r (c + 1)) (cells_left same t u r (c + 1))
  one_left r c x b lr lc e is =
      ap (new_cells same t) (first_is r c x lr lc e)
      ∙ ap (λ v. cond (not v) (((r, c), x) ∷ cells_left same t u r (c + 1)) (cells_left same t u r (c + 1))) is

  passed_over : (k r i : ℕ) → r < row_count u → i + k ≤ col_count u → ((j : ℕ) (x : T) → i ≤ j → j < i + k → cell u r j ≡ Some x → is_cell same (cell t r j) x ≡ true) → cells_left same t u r i ≡ cells_left same t u r (i + k)
  passed_over zero r i lr le h = let e : i ≡ i + 0 = omega arith in ap (cells_left same t u r) e
  passed_over (suc k) r i lr le h =
      let lc : i < col_count u = omega (arith, le) in
      let there : i < length (row u r) = omega (arith, lc, hu.even r lr) in
      let one_more : i + 1 + k ≡ i + suc k = omega arith in
      ⊎_elim {C = cells_left same t u r i ≡ cells_left same t u r (i + suc k)}
      (λ found.
      one_left r i found.0 true lr lc found.2 (h i found.0 (omega arith) (omega arith) found.2)
      ∙ (passed_over k r (i + 1) lr (omega (arith, le)) (λ j x from lt e. h j x (omega (arith, from)) (omega (arith, lt)) e)
      ∙ ap (cells_left same t u r) one_more))
      (λ past. absurd (omega (arith, past.0, there)))
      ((slice_get_cases (row u r) i).1)

  module _ (r i k : ℕ) (lr : r < row_count u) (h : IsNextChange same (row t r) (row u r) i k) where
    passed : cells_left same t u r i ≡ cells_left same t u r k
    passed =
        let e : i + (k - i) ≡ k = omega (arith, h.from) in
        passed_over (k - i) r i lr (omega (arith, h.from, h.within, hu.even r lr)) (λ j x from lt is. h.passed j x from (omega (arith, lt, e)) is)
        ∙ ap (cells_left same t u r) e

    -- the first change of a row from a column on, and none
    pub left_change : (x : T) → k < col_count u → cell u r k ≡ Some x → cells_left same t u r i ≡ ((r, k), x) ∷ cells_left same t u r (k + 1)
    left_change x lc e = passed ∙ one_left r k x false lr lc e (h.here x e)

    pub left_row : col_count u ≤ k → cells_left same t u r i ≡ cells_left same t u (r + 1) 0
    left_row le =
        let n = col_count u in
        let next : (r + 1) * n ≡ r * n + 1 * n = add-mul r 1 n in
        let end : r * n + k ≡ (r + 1) * n + 0 = omega (arith, next, le, h.within, hu.even r lr) in
        passed ∙ ap (λ j. new_cells same t (drop j all)) end

  -- behind the last row
  pub left_none : (r c : ℕ) → row_count u ≤ r → cells_left same t u r c ≡ []
  left_none r c le =
      let n = col_count u in
      let most : length all ≤ r * n + c = omega (arith, zip_within (positions RowMajor (row_count u) n) (storage RowMajor u), length-storage RowMajor u hu, mul-le-mul_right n le) in
      ap (new_cells same t) (drop_of_length-le all most)

  -- from the first position on
  pub left_all : cells_left same t u 0 0 ≡ changed_cells same t u
  left_all =
      let n = col_count u in
      let none : 0 * n + 0 ≡ 0 = omega (arith, zero-mul n) in
      ap (λ j. new_cells same t (drop j all)) none
