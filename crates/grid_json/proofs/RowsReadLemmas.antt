-- The rows of an array of arrays, item by item.
use Rattle.std.proofs.Common.{◌≡◌, ◌⊎◌, inl, inr, ℕ, ◌+◌, ◌<◌, ◌≤◌, Option, Some, None, List, [], ◌∷◌, ◌++◌, length, map, take, drop, get_or, All, refl, sym, ap, subst, ◌∙◌, arith, append_assoc, length-take, take_all, take-append-drop}
use Rattle.grid_json.proofs.Common.{map-append, length-map, take_more, All-push, Data, null, array, Items, as_array, view, AllZip-concat_rows, AddsRow, AreCells, AreRows, IsBadCell, IsBadRow, IsFault, IsMemoryOrBad, IsRow, array_of}
use Rattle.serde_json.specs.declared.value.Value.{Value}
use Rattle.grid_commands.specs.declared.error.ShapeError.TheVariants.{Ragged as RaggedRow}
use Rattle.grid_rows.specs.Rows.{RowsValue}
use Rattle.grid_rows.specs.Builder.{FitsCols, RowFault, with_cells, with_row}
use Rattle.grid_rows.proofs.ReadingLemmas.{IsBetween, open_is, ragged_is, rows_more, with_cells-more, with_cells-nil}
use Rattle.std.specs.Option.{unwrap_or}
use Rattle.grid_json.specs.declared.error.RowsError.{RowsError}
use Rattle.grid_json.specs.declared.error.RowsError.TheVariants.{Memory, Ragged}

-- ---- arrays

pub array_is : (d : Data) (xs : Items) → as_array d ≡ Some xs → d ≡ array xs
array_is (array ds) xs e = let is : ds ≡ xs = cc in ap array is
array_is null xs e = absurd (cc)
array_is d xs e = absurd (cc)

-- ---- the cells of one row

-- the value at a place, with those before and after it
pub record ValueAt (values : List Value) (i : ℕ) (x : Value) : Type 0 where
  pub next : take (i + 1) values ≡ take i values ++ x ∷ []
  pub after : List Value
  pub parts : values ≡ take i values ++ x ∷ after

pub value_at : (values : List Value) (i : ℕ) (x : Value) → i < length values → x ≡ get_or values i x → ValueAt values i x
value_at values i x within is =
    let more : take (i + 1) values ≡ take i values ++ x ∷ [] = take_more values i x within ∙ ap (λ y. take i values ++ y ∷ []) (sym is) in
    record {
      next = more;
      after = drop (i + 1) values;
      parts = sym (take-append-drop (i + 1) values) ∙ (ap (λ xs. xs ++ drop (i + 1) values) more ∙ append_assoc (take i values) (x ∷ []) (drop (i + 1) values));
    }

module _ {T : Type 0} (R : Data → Option T → Type 0) (values : List Value) (old : RowsValue T) where
  -- the cells of the first values, `at` of them
  pub record CellsSoFar (new : RowsValue T) (at : ℕ) : Type 0 where
    pub row : List T
    pub put : new ≡ with_cells old row
    pub are : AreCells R (map view (take at values)) row

  pub cells_start : CellsSoFar old 0
  cells_start = record { row = []; put = sym (with_cells-nil old); are = tt }

  module _ (new : RowsValue T) (at : ℕ) (i : CellsSoFar new at) (x : Value) (within : at < length values) (is : x ≡ get_or values at x) where
    here : ValueAt values at x
    here = value_at values at x within is

    pub cells_more : (cell : T) (added : RowsValue T) → R (view x) (Some cell) → added ≡ with_cells new (cell ∷ []) → CellsSoFar added (at + 1)
    cells_more cell added gave push =
        let views : map view (take (at + 1) values) ≡ map view (take at values) ++ view x ∷ [] = ap (map view) here.next ∙ map-append view (take at values) (x ∷ []) in
        record {
          row = i.row ++ cell ∷ [];
          put = with_cells-more old new added i.row cell i.put push;
          are = rw views (AllZip-concat_rows (λ d c. R d (Some c)) (map view (take at values)) (view x ∷ []) i.row (cell ∷ []) i.are (gave, tt));
        }

    pub cells_bad : (d : Data) → d ≡ array_of (map view values) → R (view x) None → IsBadCell R d at
    cells_bad d array_is gave =
        let taken : length (take at values) ≡ at = omega (arith, length-take at values) in
        record {
          before = map view (take at values);
          bad = view x;
          after = map view here.after;
          cells = i.row;
          is = array_is ∙ ap array_of (ap (map view) here.parts ∙ map-append view (take at values) (x ∷ here.after));
          is_col = sym (length-map (take at values) view ∙ taken);
          are_cells = i.are;
          no_cell = gave;
        }

  pub cells_end : (new : RowsValue T) (at : ℕ) → CellsSoFar new at → length values ≤ at → (d : Data) → d ≡ array_of (map view values) → AddsRow R d old new
  cells_end new at i past d is = record {
    row = i.row;
    put = i.put;
    is_row = record { items = map view values; is = is; are_cells = subst (λ xs. AreCells R (map view xs) i.row) (take_all at values past) i.are };
  }

-- ---- the rows

-- a row that fits has the length of those before it
even_with : {T : Type 0} (cols : Option ℕ) (len : ℕ) (rows : List (List T)) → (cols ≡ None → rows ≡ []) → All (λ row. length row ≡ unwrap_or cols 0) rows → FitsCols cols len → All (λ row. length row ≡ len) rows
even_with None len rows none even fits = rw (none refl) (λ k d lt. absurd (omega arith))
even_with (Some cols) len rows none even fits = λ k d lt. even k d lt ∙ sym fits

module _ {T : Type 0} (R : Data → Option T → Type 0) (values : List Value) where
  -- the rows of the first values, `at` of them
  pub record RowsSoFar (b : RowsValue T) (at : ℕ) : Type 0 where
    pub none_open : b.cells ≡ []
    pub none : b.cols ≡ None → b.rows ≡ []
    pub begun : (cols : ℕ) → b.cols ≡ Some cols → 0 < at
    pub are : AreRows R (map view (take at values)) (unwrap_or b.cols 0) b.rows

  pub rows_start : (b : RowsValue T) → b ≡ record { cols = None; rows = []; cells = [] } → RowsSoFar b 0
  rows_start b is =
      rw is (record {
        none_open = refl;
        none = λ none. refl;
        begun = λ cols known. absurd (cc);
        are = record { are_rows = tt; even = λ k d lt. absurd (omega arith) };
      })

  module _ (b : RowsValue T) (at : ℕ) (i : RowsSoFar b at) (x : Value) (within : at < length values) (is : x ≡ get_or values at x) where
    this : ValueAt values at x
    this = value_at values at x within is

    fault : (e : RowsError) → IsBadRow R at (unwrap_or b.cols 0) (view x) e → IsFault R (map view values) e
    fault e bad =
        let taken : length (take at values) ≡ at = omega (arith, length-take at values) in
        record {
          before = map view (take at values);
          bad = view x;
          after = map view this.after;
          cols = unwrap_or b.cols 0;
          rows = b.rows;
          parts = ap (map view) this.parts ∙ map-append view (take at values) (x ∷ this.after);
          are = i.are;
          is_bad = subst (λ n. IsBadRow R n (unwrap_or b.cols 0) (view x) e) (sym (length-map (take at values) view ∙ taken)) bad;
        }

    pub rows_bad : (e : RowsError) → IsMemoryOrBad R at (view x) e → (e ≡ Memory) ⊎ IsFault R (map view values) e
    rows_bad e (inl none) = inl none
    rows_bad e (inr bad) = inr (fault e (bad (unwrap_or b.cols 0)))

    between : IsBetween (unwrap_or b.cols 0) b
    between = record { none_open = i.none_open; wide = λ cols known. rw known refl }

    module _ (pushed : RowsValue T) (a : AddsRow R (view x) b pushed) where
      pub rows_ragged : (row len cols : ℕ) → RowFault pushed (RaggedRow row len cols) → IsFault R (map view values) (Ragged at len cols)
      rows_ragged row len cols bad =
          let p = ragged_is (unwrap_or b.cols 0) b pushed between a.row a.put row len cols bad in
          let others : 0 < at = i.begun cols (ap (λ v. v.cols) (sym a.put) ∙ bad.2) in
          fault (Ragged at len cols) (refl, others, p.1, λ e. p.2 (e ∙ sym p.1), (a.row, a.is_row, p.0))

      pub rows_next : (ended : RowsValue T) → FitsCols pushed.cols (length pushed.cells) × (ended ≡ with_row pushed) → RowsSoFar ended (at + 1)
      rows_next ended (fits, is_ended) =
          let views : map view (take (at + 1) values) ≡ map view (take at values) ++ view x ∷ [] = ap (map view) this.next ∙ map-append view (take at values) (x ∷ []) in
          let rows = rows_more (unwrap_or b.cols 0) b pushed between a.row a.put in
          let len : length pushed.cells ≡ length a.row = ap length (open_is (unwrap_or b.cols 0) b pushed between a.row a.put) in
          let even : All (λ row. length row ≡ length pushed.cells) b.rows = even_with b.cols (length pushed.cells) b.rows i.none i.are.even (subst (λ v. FitsCols v.cols (length pushed.cells)) a.put fits) in
          rw is_ended (record {
            none_open = refl;
            none = λ none. absurd (cc);
            begun = λ cols known. omega arith;
            are = record {
              are_rows = rw (rows, views) (AllZip-concat_rows (IsRow R) (map view (take at values)) (view x ∷ []) b.rows (a.row ∷ []) i.are.are_rows (a.is_row, tt));
              even = rw rows (All-push (λ row. length row ≡ length pushed.cells) b.rows a.row even (sym len));
            };
          })

  pub rows_end : (b : RowsValue T) (at : ℕ) → RowsSoFar b at → length values ≤ at → AreRows R (map view values) (unwrap_or b.cols 0) b.rows
  rows_end b at i past = subst (λ xs. AreRows R (map view xs) (unwrap_or b.cols 0) b.rows) (take_all at values past) i.are
