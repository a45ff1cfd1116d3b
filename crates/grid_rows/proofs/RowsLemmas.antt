-- Rows that are cut from their cells.
use Rattle.std.proofs.Common.{◌≡◌, ◌≢◌, ℕ, zero, suc, ◌+◌, ◌*◌, ◌-◌, ◌^◌, ◌<◌, ◌≤◌, Option, Some, None, List, [], ◌∷◌, ◌++◌, length, take, drop, refl, sym, ap, subst, ◌∙◌, arith, add-one, take_all, length-drop}
use Rattle.std.proofs.lemmas.List.{drop-drop, take-append-le, drop-append-le, drop_all, length-take-le, take-append-drop}
use Rattle.std.proofs.Math.Seq.{take-add}
use Rattle.grid.specs.Prelude.{CanCut, GridValue, col_count, concat_rows, equal_rows, row, storage}
use Rattle.grid_base.specs.declared.order.Order.TheVariants.{RowMajor}
use Rattle.grid_base.proofs.Lemmas.{length-concat_rows}
use Rattle.grid.proofs.MadeLemmas.{CanCut-cells}
use Rattle.grid.proofs.ConversionLemmas.{equal_rows_are}
use Rattle.std.specs.Option.{unwrap_or}
use Rattle.std.specs.Simd.{first_chunks}
use Rattle.grid_rows.specs.Rows.{RowsValue, Stands, rows_value}
use Rattle.grid_rows.specs.Builder.{FitsCols, RowFault, with_cells, with_row}
use Rattle.grid_commands.specs.declared.error.ShapeError.TheVariants.{TooLarge, Ragged}

module _ {T : Type 0} (n : ℕ) where
  -- cells after those of the rows don't matter
  chunks-append : (m : ℕ) (cells more : List T) → m * n ≤ length cells → first_chunks n m (cells ++ more) ≡ first_chunks n m cells
  chunks-append zero cells more fits = refl
  chunks-append (suc m) cells more fits =
      let first : n ≤ length cells = omega arith in
      let later : m * n ≤ length (drop n cells) = omega (arith, length-drop n cells) in
      rw (take-append-le n cells more first, drop-append-le n cells more first, chunks-append m (drop n cells) more later) refl

  -- a row more
  chunks-more : (m : ℕ) (cells : List T) → length cells ≡ suc m * n → first_chunks n (suc m) cells ≡ first_chunks n m cells ++ drop (m * n) cells ∷ []
  chunks-more zero cells count =
      let all : take n cells ≡ cells = take_all n cells (omega arith) in
      let none : 0 * n ≡ 0 = omega arith in
      ap (λ row. row ∷ []) all ∙ ap (λ k. drop k cells ∷ []) (sym none)
  chunks-more (suc m) cells count =
      let later : length (drop n cells) ≡ suc m * n = omega (arith, length-drop n cells) in
      let past : n + m * n ≡ suc m * n = omega arith in
      ap (λ rows. take n cells ∷ rows) (chunks-more m (drop n cells) later ∙ ap (λ row. first_chunks n m (drop n cells) ++ row ∷ []) (drop-drop (m * n) n cells ∙ ap (λ k. drop k cells) past))

  -- their number, their length and their cells
  record Cut (m : ℕ) (cells : List T) (rows : List (List T)) : Type 0 where
    count : length rows ≡ m
    even : (r : ℕ) → r < length rows → length (row rows r) ≡ n
    joined : concat_rows rows ≡ take (m * n) cells

  chunks_cut : (m : ℕ) (cells : List T) → m * n ≤ length cells → Cut m cells (first_chunks n m cells)
  chunks_cut zero cells fits =
      let none : 0 * n ≡ 0 = omega arith in
      record { count = refl; even = λ r lt. absurd (omega arith); joined = sym (ap (λ k. take k cells) none) }
  chunks_cut (suc m) cells fits =
      let later = chunks_cut m (drop n cells) (omega (arith, length-drop n cells)) in
      let past : n + m * n ≡ suc m * n = omega arith in
      record {
        count = ap suc later.count;
        even = λ r lt. by_row later.even r lt;
        joined = ap (λ xs. take n cells ++ xs) later.joined ∙ (sym (take-add n (m * n) cells) ∙ ap (λ k. take k cells) past);
      }
    where
      by_row : ((r : ℕ) → r < length (first_chunks n m (drop n cells)) → length (row (first_chunks n m (drop n cells)) r) ≡ n) → (r : ℕ) → r < length (take n cells ∷ first_chunks n m (drop n cells)) → length (row (take n cells ∷ first_chunks n m (drop n cells)) r) ≡ n
      by_row later zero lt = length-take-le n cells (omega arith)
      by_row later (suc r) lt = later r (omega arith)

-- the number of cells that a row has to have, where any will do unless it is known
fits_any : (cols : Option ℕ) (len n : ℕ) → n ≡ unwrap_or cols len → n ≡ len → FitsCols cols len
fits_any None len n is same = tt
fits_any (Some cols) len n is same = sym same ∙ is

known_cols : (cols : Option ℕ) (len n : ℕ) → n ≡ unwrap_or cols len → n ≢ len → cols ≡ Some n
known_cols None len n is ne = absurd (ne is)
known_cols (Some cols) len n is ne = ap Some (sym is)

some_row : {T : Type 0} (rows : List (List T)) → length (concat_rows rows) ≢ 0 → 0 < length rows
some_row [] some = absurd (some refl)
some_row (x ∷ xs) some = omega arith

-- a builder of these parts, seen as v
module _ {T : Type 0} (cols : Option ℕ) (count start : ℕ) (cells : List T) (s : Stands cols count start cells) (v : RowsValue T) (is : rows_value cols count start cells ≡ v) where
  pub row_pushed : (new : List T) (cell : T) → new ≡ cells ++ cell ∷ [] → rows_value cols count start new ≡ with_cells v (cell ∷ [])
  row_pushed new cell push =
      rw (push, ← is, chunks-append (unwrap_or cols 0) count cells (cell ∷ []) (omega (arith, s.start_is, s.within)), drop-append-le start cells (cell ∷ []) s.within) refl

  cut : Cut (unwrap_or cols 0) count cells v.rows
  cut = subst (λ x. Cut (unwrap_or cols 0) count cells x.rows) is (chunks_cut (unwrap_or cols 0) count cells (omega (arith, s.start_is, s.within)))

  rows_len : count ≡ length v.rows
  rows_len = sym cut.count

  pub all_cells : cells ≡ concat_rows v.rows ++ v.cells
  all_cells =
      let before : concat_rows v.rows ≡ take start cells = cut.joined ∙ ap (λ k. take k cells) (sym s.start_is) in
      sym (take-append-drop start cells) ∙ (ap (λ xs. xs ++ drop start cells) (sym before) ∙ ap (λ x. concat_rows v.rows ++ x.cells) is)

  module _ (kept : List T) (kept_is : kept ≡ take start cells) where
    joined : kept ≡ concat_rows v.rows
    joined = kept_is ∙ (ap (λ k. take k cells) s.start_is ∙ sym cut.joined)

    pub can_cut : CanCut (length kept) (unwrap_or cols 0)
    can_cut = CanCut-cells (length kept) (length v.rows) (unwrap_or cols 0) (ap length joined ∙ length-concat_rows v.rows (unwrap_or cols 0) cut.even)

    -- a table that is cut from them
    pub rows_are : (g : GridValue T) → storage RowMajor g.rows ≡ kept → (length kept ≢ 0 → col_count g.rows ≡ unwrap_or cols 0) → g.rows ≡ equal_rows v.rows
    rows_are g stored wide =
        equal_rows_are v.rows g.rows (λ r lt. cut.even r lt ∙ sym (cut.even 0 (omega arith))) g.table (stored ∙ joined)
        (λ some. wide (λ none. some (sym (ap length joined) ∙ none)) ∙ sym (cut.even 0 (some_row v.rows some)))

  -- all cells are so many, and a row should have n
  module _ (all : ℕ) (all_is : all ≡ length cells) (n : ℕ) (n_is : n ≡ unwrap_or cols (all - start)) where
    open_len : all - start ≡ length v.cells
    open_len = rw (← is) (omega (arith, s.within, length-drop start cells))

    pub ragged_row : n ≢ all - start → RowFault v (Ragged count (all - start) n)
    ragged_row ne = (rows_len, open_len, ap (λ x. x.cols) (sym is) ∙ known_cols cols (all - start) n n_is ne, λ e. ne (sym e))

    module _ (same : n ≡ all - start) where
      fits : FitsCols cols (all - start)
      fits = fits_any cols (all - start) n n_is same

      fits_seen : FitsCols v.cols (length v.cells)
      fits_seen = subst (λ len. FitsCols v.cols len) open_len (subst (λ x. FitsCols x.cols (all - start)) is fits)

      pub row_too_many : count + 1 ≡ 2 ^ 64 → RowFault v TooLarge
      row_too_many limit = (fits_seen, ap (λ k. k + 1) (sym rows_len) ∙ limit)

      joined_len : start + (all - start) ≡ length cells
      joined_len = omega (arith, s.within)

      same_width : (cols : Option ℕ) (len : ℕ) → start ≡ count * unwrap_or cols 0 → (cols ≡ None → count ≡ 0) → FitsCols cols len → (count * len ≡ start) × (first_chunks len count cells ≡ first_chunks (unwrap_or cols 0) count cells)
      same_width None len start_is none fits =
          let e : count ≡ 0 = none refl in
          (omega (arith, ap (λ k. k * len) e), ap (λ k. first_chunks len k cells) e ∙ sym (ap (λ k. first_chunks 0 k cells) e))
      same_width (Some cols) len start_is none fits = (omega (arith, ap (λ k. count * k) fits), ap (λ k. first_chunks k count cells) fits)

      before : (count * (all - start) ≡ start) × (first_chunks (all - start) count cells ≡ first_chunks (unwrap_or cols 0) count cells)
      before = same_width cols (all - start) s.start_is s.none fits

      pub row_ended : FitsCols v.cols (length v.cells) × (rows_value (Some (all - start)) (count + 1) (start + (all - start)) cells ≡ with_row v)
      row_ended =
          let rows : first_chunks (all - start) (count + 1) cells ≡ first_chunks (all - start) count cells ++ drop (count * (all - start)) cells ∷ [] = rw add-one (chunks-more (all - start) count cells (omega (arith, joined_len, before.0))) in
          let none : drop (start + (all - start)) cells ≡ [] = drop_all (start + (all - start)) cells (omega (arith, joined_len)) in
          let open_is : drop (count * (all - start)) cells ≡ v.cells = ap (λ k. drop k cells) before.0 ∙ ap (λ x. x.cells) is in
          let rows_are : first_chunks (all - start) count cells ≡ v.rows = before.1 ∙ ap (λ x. x.rows) is in
          (fits_seen, rw (rows, none, open_is, rows_are, open_len) refl)
