-- The cells of one record, field by field.
use Rattle.std.proofs.Common.{◌≡◌, ℕ, zero, suc, ◌+◌, Option, Some, None, List, [], ◌∷◌, ◌++◌, length, take, refl, sym, ap, subst, add-one}
use Rattle.grid_rows.specs.Rows.{RowsValue}
use Rattle.grid_rows.specs.Builder.{with_cells}
use Rattle.grid_rows.proofs.ReadingLemmas.{with_cells-more, with_cells-nil}
use Rattle.grid_csv.proofs.Common.{field_at, AreCells, IsBadAt, AddsCells, AllZip-append}

-- the field at a place, with those before and after it
record IsAt (fields : List (List ℕ)) (i : ℕ) (field : List ℕ) : Type 0 where
  after : List (List ℕ)
  parts : fields ≡ take i fields ++ field ∷ after
  next : take (suc i) fields ≡ take i fields ++ field ∷ []
  len : length (take i fields) ≡ i

is_at : (fields : List (List ℕ)) (i : ℕ) (field : List ℕ) → field_at fields i ≡ Some field → IsAt fields i field
unfolding field_at
is_at [] i field e = absurd (cc)
is_at (f ∷ fs) zero field e =
    let same : f ≡ field = cc in
    record { after = fs; parts = ap (λ x. x ∷ fs) same; next = ap (λ x. x ∷ []) same; len = refl }
is_at (f ∷ fs) (suc i) field e =
    let h = is_at fs i field e in
    record { after = h.after; parts = ap (λ xs. f ∷ xs) h.parts; next = ap (λ xs. f ∷ xs) h.next; len = ap suc h.len }

all_taken : (fields : List (List ℕ)) (i : ℕ) → field_at fields i ≡ None → take i fields ≡ fields
unfolding field_at
all_taken [] zero e = refl
all_taken [] (suc i) e = refl
all_taken (f ∷ fs) zero e = absurd (cc)
all_taken (f ∷ fs) (suc i) e = ap (λ xs. f ∷ xs) (all_taken fs i e)

-- the cells of the first fields, `at` of them
pub record CellsSoFar {T : Type 0} (R : List ℕ → Option T → Type 0) (fields : List (List ℕ)) (old new : RowsValue T) (at : ℕ) : Type 0 where
  pub row : List T
  pub put : new ≡ with_cells old row
  pub are_cells : AreCells R (take at fields) row

module _ {T : Type 0} (R : List ℕ → Option T → Type 0) (fields : List (List ℕ)) (old : RowsValue T) where
  pub cells_start : CellsSoFar R fields old old 0
  cells_start = record { row = []; put = sym (with_cells-nil old); are_cells = tt }

  module _ (new : RowsValue T) (at : ℕ) (i : CellsSoFar R fields old new at) where
    pub cells_more : (field : List ℕ) (cell : T) (added : RowsValue T) → field_at fields at ≡ Some field → R field (Some cell) → added ≡ with_cells new (cell ∷ []) → CellsSoFar R fields old added (at + 1)
    cells_more field cell added is gave push =
        let h = is_at fields at field is in
        record {
          row = i.row ++ cell ∷ [];
          put = with_cells-more old new added i.row cell i.put push;
          are_cells = rw (add-one, h.next) (AllZip-append (λ f c. R f (Some c)) (take at fields) i.row field cell i.are_cells gave);
        }

    pub cells_bad : (field : List ℕ) → field_at fields at ≡ Some field → R field None → IsBadAt R fields (at + 1)
    cells_bad field is gave =
        let h = is_at fields at field is in
        record {
          before = take at fields;
          field = field;
          after = h.after;
          cells = i.row;
          parts = h.parts;
          is_place = ap (λ n. n + 1) (sym h.len);
          are_cells = i.are_cells;
          bad = gave;
        }

    pub cells_end : field_at fields at ≡ None → AddsCells R fields old new
    cells_end none = record { row = i.row; put = i.put; are_cells = subst (λ xs. AreCells R xs i.row) (all_taken fields at none) i.are_cells }
