-- The table whose storage is what a closure answered, cell by cell.
use Rattle.std.proofs.Common.{◌≡◌, ◌≢◌, ℕ, ◌+◌, ◌*◌, ◌^◌, ◌<◌, Option, None, Some, IsSomeAnd, List, length, refl, sym, subst, ◌∙◌, ap, arith, slice_get, Bor, IsSome, mul_comm, inr, Result, Ok, Err, IfOk}
use Rattle.std.specs.List.{refill}
use Rattle.grid_base.proofs.Common.{slice_get_within, concat_rows, row_count, col_count, cell, IsTable, transposed, storage, place, table_of, HoldsSize, CanCut}
use Rattle.grid_base.specs.declared.order.Order.{Order}
use Rattle.grid_base.specs.declared.order.Order.TheVariants.{RowMajor, ColumnMajor}
use Rattle.grid_base.proofs.TableLemmas.{IsFull-cells, IsSize-table, IsTable-tabulate, tabulate-same, cell-tabulate, cols-tabulate, rows-transposed}
use Rattle.grid_base.proofs.ViewLemmas.{view-rows, view-cols, view-table, view-cell, view-storage, CanCut-storage}
use Rattle.grid_base.proofs.TableLemmas.{cell_in_range}
use Rattle.grid_base.proofs.StorageLemmas.{length-storage, get-storage, has_place, place_within}
use Rattle.grid.proofs.ExchangeLemmas.{refilled}
use Rattle.grid.proofs.FromViewLemmas.{from_storage}
use Rattle.grid_pairs.specs.Joined.{Joins, ReturnsAlways, both, JoinedBy, CallableAtPairs}
use Rattle.grid_pairs.specs.Answered.{Appended, Replaced, RowsJoined, RowsReplaced, Placed, CallableAtRow, CallableAtRows}

-- a cell of the transposed table
pub transposed_cell : {T : Type 0} (t : List (List T)) → IsTable t → (r c : ℕ) → r < row_count t → c < col_count t → cell (transposed t) c r ≡ cell t r c
transposed_cell t h r c lr lc = cell-tabulate (col_count t) (row_count t) _ c r (record { full = λ j i lj li. (IsFull-cells t h).full i j li lj }) lc lr

pub transposed_cols : {T : Type 0} (t : List (List T)) → IsTable t → col_count (transposed t) ≡ row_count t
transposed_cols t h =
    let s = IsSize-table t h in
    cols-tabulate (col_count t) (row_count t) _ (record { has_cols = s.has_rows; has_rows = s.has_cols }) (record { full = λ j i lj li. (IsFull-cells t h).full i j li lj })

pub IsTable-transposed : {T : Type 0} (t : List (List T)) → IsTable t → IsTable (transposed t)
IsTable-transposed t h =
    let s = IsSize-table t h in
    IsTable-tabulate (col_count t) (row_count t) _ (record { has_cols = s.has_rows; has_rows = s.has_cols }) (record { full = λ j i lj li. (IsFull-cells t h).full i j li lj })

some_of : {C : Type 0} (P : C → Type 0) (x y : Option C) → IsSomeAnd x P → x ≡ y → IsSome y
some_of P None y a e = absurd a
some_of P (Some z) y a e = subst IsSome e refl

module _ {F A B C : Type 0} (returns : F → Bor A → Bor B → C → Type 0) (f : F) where
  -- an answer, where the closure returns h of the two cells
  answer_is : (h : A → B → C) → ReturnsAlways returns f h → (o : Option C) (x : Option A) (y : Option B) → IsSomeAnd o (Joins returns f x y) → o ≡ both h x y
  answer_is h says None x y a = absurd a
  answer_is h says (Some z) x y a =
      let w : both h x y ≡ Some (h a.0.now a.1.now) = ap (λ o. both h o y) a.2 ∙ ap (λ o. both h (Some a.0.now) o) a.3 in
      ap Some (says a.0 a.1 z a.4) ∙ sym w

  pub placed_cols : (t : List (List A)) (u : List (List B)) (items : List C) → IsTable t → IsTable u → row_count u ≡ row_count t → col_count u ≡ col_count t → RowsJoined returns f (row_count (transposed t)) (transposed t) (transposed u) items → Placed returns f ColumnMajor t u items
  placed_cols t u items ht hu er ec w =
      let rows = rows-transposed t in
      let cols = transposed_cols t ht in
      record {
        len = w.len ∙ (ap (λ x. x * col_count (transposed t)) rows ∙ (ap (λ x. col_count t * x) cols ∙ mul_comm (col_count t) (row_count t)));
        answers = λ r c lr lc.
            subst (λ x. IsSomeAnd (slice_get items (c * x + r)) (Joins returns f (cell t r c) (cell u r c))) cols
            (subst (λ x. IsSomeAnd (slice_get items (c * col_count (transposed t) + r)) (Joins returns f x (cell u r c))) (transposed_cell t ht r c lr lc)
            (subst (λ y. IsSomeAnd (slice_get items (c * col_count (transposed t) + r)) (Joins returns f (cell (transposed t) c r) y)) (transposed_cell u hu r c (omega (arith, er)) (omega (arith, ec)))
            (w.answers c r (omega (arith, rows)) (omega (arith, cols)))));
      }

  -- the table of such items
  module _ (o : Order) (t : List (List A)) (u : List (List B)) (items : List C) (h : IsTable t) (below : row_count t * col_count t < 2 ^ 64) (p : Placed returns f o t u items) where
    holds : HoldsSize (row_count t) (col_count t) (length items)
    holds = record { cells = p.len; below = below; size = IsSize-table t h }

    pub joined_table : JoinedBy returns f t u (table_of o (row_count t) (col_count t) items)
    joined_table =
        let m = row_count t in
        let n = col_count t in
        record {
          rows = view-rows o m n items holds;
          cols = view-cols o m n items holds;
          answers = λ r c within. subst (λ x. IsSomeAnd x (Joins returns f (cell t r c) (cell u r c))) (sym (view-cell o m n items holds r c within.0 within.1)) (p.answers r c within.0 within.1);
          tabulated = λ k says.
              let same : (r c : ℕ) → r < m → c < n → slice_get items (place o m n r c) ≡ both k (cell t r c) (cell u r c) = λ r c lr lc. answer_is k says _ _ _ (p.answers r c lr lc) in
              tabulate-same m n _ _ same (record { full = λ r c lr lc. some_of _ _ _ (p.answers r c lr lc) (same r c lr lc) });
        }

    -- the table that is cut from them is that one
    pub joined_cut : (v : List (List C)) (width : ℕ) → IsTable v → storage o v ≡ items → width ≡ col_count t → (length items ≢ 0 → col_count v ≡ width) → JoinedBy returns f t u v
    joined_cut v width hv stored wide cols =
        let made = table_of o (row_count t) (col_count t) items in
        let same : v ≡ made = from_storage o made v (view-table o _ _ items holds) hv items width (sym (view-storage o _ _ items holds)) stored (wide ∙ sym (view-cols o _ _ items holds)) cols in
        subst (JoinedBy returns f t u) (sym same) joined_table

    -- the items that are written back to a storage of as many
    pub joined_back : (old : List C) → length old ≡ row_count t * col_count t → JoinedBy returns f t u (table_of o (row_count t) (col_count t) (refill (length old) old items))
    joined_back old len =
        let same : refill (length old) old items ≡ items = refilled old items (p.len ∙ sym len) in
        rw same joined_table

module _ {A B : Type 0} (t : List (List A)) (u : List (List B)) (cells : List A) (ht : IsTable t) (hu : IsTable u) (er : row_count u ≡ row_count t) (ec : col_count u ≡ col_count t) where
  -- the place of a cell, by the rows or the columns of the other table
  by_rows : storage RowMajor t ≡ cells → (r c : ℕ) → r < row_count t → c < col_count t → slice_get cells (r * col_count u + c) ≡ cell t r c
  by_rows stored r c lr lc =
      ap (λ x. slice_get cells (r * x + c)) ec ∙ (ap (λ l. slice_get l (r * col_count t + c)) (sym stored) ∙ get-storage RowMajor t r c ht lr lc)

  by_cols : storage ColumnMajor t ≡ cells → (r c : ℕ) → r < row_count t → c < col_count t → slice_get cells (c * col_count (transposed u) + r) ≡ cell t r c
  by_cols stored r c lr lc =
      ap (λ x. slice_get cells (c * x + r)) (transposed_cols u hu ∙ er) ∙ (ap (λ l. slice_get l (c * row_count t + r)) (sym stored) ∙ get-storage ColumnMajor t r c ht lr lc)

  module _ {F : Type 0} (takes : F → Bor A → Bor B → Type 0) (f : F) (can : CallableAtPairs takes f t u) where
    pub callable_rows : storage RowMajor t ≡ cells → CallableAtRows takes f cells u
    callable_rows stored = record {
      at = λ i j p q ex ey.
          let within = cell_in_range u hu i j q.now ey in
          let lr : i < row_count t = omega (arith, within.0, er) in
          let lc : j < col_count t = omega (arith, within.1, ec) in
          can i j p q (lr, lc) (sym (by_rows stored i j lr lc) ∙ ex) ey;
    }

    pub callable_cols : storage ColumnMajor t ≡ cells → CallableAtRows takes f cells (transposed u)
    callable_cols stored = record {
      at = λ i j p q ex ey.
          let within = cell_in_range (transposed u) (IsTable-transposed u hu) i j q.now ey in
          let lc : i < col_count t = omega (arith, within.0, rows-transposed u, ec) in
          let lr : j < row_count t = omega (arith, within.1, transposed_cols u hu, er) in
          can j i p q (lr, lc) (sym (by_cols stored j i lr lc) ∙ ex) (sym (transposed_cell u hu j i (omega (arith, lr, er)) (omega (arith, lc, ec))) ∙ ey);
    }

  module _ {F : Type 0} (returns : F → Bor A → Bor B → A → Type 0) (f : F) (new : List A) where
    pub replaced_rows : storage RowMajor t ≡ cells → RowsReplaced returns f (row_count u) u cells new → Placed returns f RowMajor t u new
    replaced_rows stored w = record {
      len = w.len ∙ (ap length (sym stored) ∙ length-storage RowMajor t ht);
      answers = λ r c lr lc.
          subst (λ x. IsSomeAnd (slice_get new (r * x + c)) (Joins returns f (cell t r c) (cell u r c))) ec
          (subst (λ x. IsSomeAnd (slice_get new (r * col_count u + c)) (Joins returns f x (cell u r c))) (by_rows stored r c lr lc) (w.answers r c (omega (arith, er)) (omega (arith, ec))));
    }

    pub replaced_cols : storage ColumnMajor t ≡ cells → RowsReplaced returns f (row_count (transposed u)) (transposed u) cells new → Placed returns f ColumnMajor t u new
    replaced_cols stored w = record {
      len = w.len ∙ (ap length (sym stored) ∙ length-storage ColumnMajor t ht);
      answers = λ r c lr lc.
          subst (λ x. IsSomeAnd (slice_get new (c * x + r)) (Joins returns f (cell t r c) (cell u r c))) (transposed_cols u hu ∙ er)
          (subst (λ y. IsSomeAnd (slice_get new (c * col_count (transposed u) + r)) (Joins returns f (cell t r c) y)) (transposed_cell u hu r c (omega (arith, er)) (omega (arith, ec)))
          (subst (λ x. IsSomeAnd (slice_get new (c * col_count (transposed u) + r)) (Joins returns f x (cell (transposed u) c r))) (by_cols stored r c lr lc) (w.answers c r (omega (arith, rows-transposed u, ec)) (omega (arith, transposed_cols u hu, er)))));
    }

-- the closure can be called at each two cells of the transposed tables
pub callable_across : {F A B : Type 0} (takes : F → Bor A → Bor B → Type 0) (f : F) (t : List (List A)) (u : List (List B)) → IsTable t → IsTable u → row_count u ≡ row_count t → col_count u ≡ col_count t → CallableAtPairs takes f t u → CallableAtPairs takes f (transposed t) (transposed u)
callable_across takes f t u ht hu er ec can c r p q within ex ey =
    let lc : c < col_count t = omega (arith, within.0, rows-transposed t) in
    let lr : r < row_count t = omega (arith, within.1, transposed_cols t ht) in
    can r c p q (lr, lc) (sym (transposed_cell t ht r c lr lc) ∙ ex) (sym (transposed_cell u hu r c (omega (arith, er)) (omega (arith, ec))) ∙ ey)

-- the items can be cut at the width of the table
pub placed_cut : {F A B C : Type 0} (returns : F → Bor A → Bor B → C → Type 0) (f : F) (o : Order) (t : List (List A)) (u : List (List B)) (items : List C) → IsTable t → Placed returns f o t u items → CanCut (length items) (col_count t)
placed_cut returns f o t u items h p =
    subst (λ x. CanCut x (col_count t)) (length-storage RowMajor t h ∙ sym p.len) (CanCut-storage RowMajor t h)

-- the items that were made of the transposed tables
pub placed_made : {F A B C V E : Type 0} (returns : F → Bor A → Bor B → C → Type 0) (f : F) (o : Order) (t : List (List A)) (u : List (List B)) (tt : List (List A)) (uu : List (List B)) (made : Result V E) (items : V → List C) → o ≡ ColumnMajor → tt ≡ transposed t → uu ≡ transposed u → IsTable t → IsTable u → row_count u ≡ row_count t → col_count u ≡ col_count t → IfOk made (λ v. RowsJoined returns f (row_count tt) tt uu (items v)) → IfOk made (λ v. Placed returns f o t u (items v))
placed_made returns f o t u tt uu (Err e) items eo et eu ht hu er ec w = _
placed_made returns f o t u tt uu (Ok v) items eo et eu ht hu er ec w =
    let across : RowsJoined returns f (row_count (transposed t)) (transposed t) (transposed u) (items v) = rw (et, eu) at w in
    rw eo (placed_cols returns f t u (items v) ht hu er ec across)

-- two boards whose rows follow one another in two slices
module _ {A B : Type 0} (t : List (List A)) (u : List (List B)) (ht : IsTable t) (hu : IsTable u) (er : row_count u ≡ row_count t) (ec : col_count u ≡ col_count t) where
  pub whole_even : length (concat_rows u) ≡ length (concat_rows t)
  whole_even = length-storage RowMajor u hu ∙ (ap (λ x. x * col_count u) er ∙ (ap (λ x. row_count t * x) ec ∙ sym (length-storage RowMajor t ht)))

  at_other : (i j : ℕ) → i < row_count t → j < col_count t → slice_get (concat_rows u) (i * col_count t + j) ≡ cell u i j
  at_other i j li lj = ap (λ x. slice_get (concat_rows u) (i * x + j)) (sym ec) ∙ get-storage RowMajor u i j hu (omega (arith, er)) (omega (arith, ec))

  pub callable_whole : {F : Type 0} (takes : F → Bor A → Bor B → Type 0) (f : F) → CallableAtPairs takes f t u → CallableAtRow takes f 0 (concat_rows t) (concat_rows u)
  callable_whole takes f can = record {
    at = λ k p q ex ey.
        let zero_on : 0 + k ≡ k = omega arith in
        let here : slice_get (concat_rows t) k ≡ Some p.now = ap (slice_get (concat_rows t)) (sym zero_on) ∙ ex in
        let w = has_place RowMajor (row_count t) (col_count t) k (omega (arith, slice_get_within (concat_rows t) k p.now here, length-storage RowMajor t ht)) in
        can w.r w.c p q (w.lr, w.lc)
        (sym (get-storage RowMajor t w.r w.c ht w.lr w.lc) ∙ (ap (slice_get (concat_rows t)) w.is ∙ here))
        (sym (at_other w.r w.c w.lr w.lc) ∙ (ap (slice_get (concat_rows u)) w.is ∙ ey));
  }

  pub joined_whole : {F C : Type 0} (returns : F → Bor A → Bor B → C → Type 0) (f : F) (none new : List C) → length none ≡ 0 → Appended returns f (length (concat_rows t)) (concat_rows t) (concat_rows u) none new → RowsJoined returns f (row_count t) t u new
  joined_whole returns f none new e a = record {
    len = omega (arith, a.len, e, length-storage RowMajor t ht);
    answers = λ i j li lj.
        let k = i * col_count t + j in
        let at : length none + k ≡ k = omega (arith, e) in
        let lk : k < length (concat_rows t) = omega (arith, place_within RowMajor (row_count t) (col_count t) i j li lj, length-storage RowMajor t ht) in
        subst (λ x. IsSomeAnd (slice_get new k) (Joins returns f x (cell u i j))) (get-storage RowMajor t i j ht li lj)
        (subst (λ y. IsSomeAnd (slice_get new k) (Joins returns f (slice_get (concat_rows t) k) y)) (at_other i j li lj)
        (subst (λ n. IsSomeAnd (slice_get new n) (Joins returns f (slice_get (concat_rows t) k) (slice_get (concat_rows u) k))) at (a.answers k lk)));
  }

-- items that one such board replaces
module _ {A B : Type 0} (u : List (List B)) (cells : List A) (hu : IsTable u) where
  pub callable_stored : {F : Type 0} (takes : F → Bor A → Bor B → Type 0) (f : F) → CallableAtRows takes f cells u → CallableAtRow takes f 0 cells (concat_rows u)
  callable_stored takes f can = record {
    at = λ k p q ex ey.
        let zero_on : 0 + k ≡ k = omega arith in
        let w = has_place RowMajor (row_count u) (col_count u) k (omega (arith, slice_get_within (concat_rows u) k q.now ey, length-storage RowMajor u hu)) in
        can.at w.r w.c p q (ap (slice_get cells) (w.is ∙ sym zero_on) ∙ ex)
        (sym (get-storage RowMajor u w.r w.c hu w.lr w.lc) ∙ (ap (slice_get (concat_rows u)) w.is ∙ ey));
  }

  pub replaced_whole : {F : Type 0} (returns : F → Bor A → Bor B → A → Type 0) (f : F) (new : List A) → Replaced returns f 0 (length (concat_rows u)) (concat_rows u) cells new → RowsReplaced returns f (row_count u) u cells new
  replaced_whole returns f new a = record {
    len = a.len;
    others = λ k le. a.others k (inr (omega (arith, le, length-storage RowMajor u hu)));
    answers = λ i j li lj.
        let k = i * col_count u + j in
        let at : 0 + k ≡ k = omega arith in
        let lk : k < length (concat_rows u) = omega (arith, place_within RowMajor (row_count u) (col_count u) i j li lj, length-storage RowMajor u hu) in
        subst (λ y. IsSomeAnd (slice_get new k) (Joins returns f (slice_get cells k) y)) (get-storage RowMajor u i j hu li lj)
        (subst (λ n. IsSomeAnd (slice_get new n) (Joins returns f (slice_get cells n) (slice_get (concat_rows u) k))) at (a.answers k lk));
  }
