-- The rows of records, one after the other.
use Rattle.std.proofs.Common.{◌≡◌, ◌⊎◌, inl, inr, ℕ, ◌+◌, ◌<◌, ◌==◌, false, Option, Some, None, Ok, List, [], ◌∷◌, ◌++◌, length, All, refl, sym, ap, subst, ◌∙◌, arith, append_assoc, append-nil, length-append, ne_eqb}
use Rattle.grid_csv.proofs.Common.{AllZip-long, All-push, GridValue, equal_rows, AreCells, AreRows, IsBadRecord, IsFault, AddsCells, IsMemoryOrBad, MayRead, AllZip-append, width_of, first_of}
use Rattle.grid_base.specs.declared.order.Order.TheVariants.{RowMajor}
use Rattle.grid_commands.specs.declared.error.ShapeError.TheVariants.{Ragged as RaggedRow}
use Rattle.grid_rows.specs.Rows.{RowsValue}
use Rattle.grid_rows.specs.Builder.{FitsCols, RowFault, with_row}
use Rattle.grid_rows.proofs.ReadingLemmas.{IsBetween, row_fits, between_more, rows_more, ragged_is}
use Rattle.grid_csv.specs.declared.error.CsvError.{CsvError}
use Rattle.grid_csv.specs.declared.error.CsvError.TheVariants.{BadField, Ragged, Memory}

-- rows with cells are the table
whole : {T : Type 0} (rows : List (List T)) → All (λ row. 0 < length row) rows → equal_rows rows ≡ rows
whole [] some = refl
whole (x ∷ xs) some =
    let test : (length x == 0) ≡ false = ne_eqb (length x) 0 (λ none. absurd (omega (arith, some 0 [] (omega arith)))) in
    rw test refl

module _ {T : Type 0} (R : List ℕ → Option T → Type 0) (first : ℕ) (start : Option ℕ) (all : List (List (List ℕ))) where
  abbrev cols : ℕ
  cols = width_of start all

  -- the rows of the records before that of this number; those that are left come after them
  pub record RowsSoFar (left : List (List (List ℕ))) (b : RowsValue T) (number : ℕ) : Type 0 where
    pub before : List (List (List ℕ))
    pub parts : all ≡ before ++ left
    pub counts : number ≡ first + length before
    pub between : IsBetween cols b
    pub begun : b.cols ≡ None → (before ≡ []) × (start ≡ None)
    pub are_rows : AreRows R cols before b.rows
    pub some : All (λ row. 0 < length row) b.rows

  pub rows_start : (b : RowsValue T) → b.cols ≡ start → b.rows ≡ [] → b.cells ≡ [] → RowsSoFar all b first
  rows_start b cols_are no_rows no_cells = record {
    before = [];
    parts = refl;
    counts = omega arith;
    between = record { none_open = no_cells; wide = λ n e. let known : start ≡ Some n = sym cols_are ∙ e in rw known refl };
    begun = λ none. (refl, sym cols_are ∙ none);
    are_rows = rw no_rows tt;
    some = rw no_rows (λ i d lt. absurd (omega arith));
  }

  module _ (left later : List (List (List ℕ))) (fields : List (List ℕ)) (b : RowsValue T) (number : ℕ) (i : RowsSoFar left b number) (next : left ≡ fields ∷ later) where
    here : all ≡ i.before ++ fields ∷ later
    here = i.parts ∙ ap (λ xs. i.before ++ xs) next

    fault : (e : CsvError) → IsBadRecord R number cols fields e → IsFault R first cols all e
    fault e bad = record {
      before = i.before;
      fields = fields;
      after = later;
      rows = b.rows;
      parts = here;
      are_rows = i.are_rows;
      bad = subst (λ n. IsBadRecord R n cols fields e) i.counts bad;
    }

    pub rows_bad : (e : CsvError) → IsMemoryOrBad R number fields e → (e ≡ Memory) ⊎ IsFault R first cols all e
    rows_bad e (inl none) = inl none
    rows_bad e (inr (place, is, bad)) = inr (rw is (fault (BadField number place) (refl, bad)))

    module _ (pushed : RowsValue T) (a : AddsCells R fields b pushed) where
      long : length a.row ≡ length fields
      long = AllZip-long _ fields a.row a.are_cells

      pub rows_ragged : (row len n : ℕ) → RowFault pushed (RaggedRow row len n) → IsFault R first cols all (Ragged number len n)
      rows_ragged row len n bad =
          let p = ragged_is cols b pushed i.between a.row a.put row len n bad in
          fault (Ragged number len n) (refl, p.0 ∙ long, p.1, λ e. p.2 (e ∙ sym p.1), (a.row, a.are_cells))

      pub rows_next : 0 < length fields → (ended : RowsValue T) → FitsCols pushed.cols (length pushed.cells) × (ended ≡ with_row pushed) → RowsSoFar later ended (number + 1)
      rows_next some ended (fits, is) =
          let wide : length a.row ≡ cols =
          row_fits cols b pushed i.between a.row a.put
          (λ none.
          let p = i.begun none in
          long ∙ sym (ap (λ o. width_of o all) p.1 ∙ ap (λ rs. length (first_of rs)) (here ∙ ap (λ rs. rs ++ fields ∷ later) p.0)))
          fits in
          let rows = rows_more cols b pushed i.between a.row a.put in
          rw is (record {
            before = i.before ++ fields ∷ [];
            parts = here ∙ sym (append_assoc i.before (fields ∷ []) later);
            counts = omega (arith, i.counts, length-append i.before (fields ∷ []));
            between = between_more cols b pushed i.between a.row a.put wide;
            begun = λ none. absurd (cc);
            are_rows = rw rows (AllZip-append (λ f r. AreCells R f r × (length r ≡ cols)) i.before b.rows fields a.row i.are_rows (a.are_cells, wide));
            some = rw rows (All-push (λ row. 0 < length row) b.rows a.row i.some (omega (arith, long)));
          })

  pub rows_end : (left : List (List (List ℕ))) (b : RowsValue T) (number : ℕ) → RowsSoFar left b number → left ≡ [] → (g : GridValue T) → g.rows ≡ equal_rows b.rows → g.order ≡ RowMajor → MayRead R first cols all (Ok g)
  rows_end left b number i none g rows order =
      let done : all ≡ i.before = i.parts ∙ (ap (λ xs. i.before ++ xs) none ∙ append-nil i.before) in
      (subst (AreRows R cols all) (sym (rows ∙ whole b.rows i.some)) (subst (λ rs. AreRows R cols rs b.rows) (sym done) i.are_rows), order)
