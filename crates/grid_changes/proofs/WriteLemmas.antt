-- The cells of a board that differ from another's, written one after another: the other becomes the board.
use Rattle.std.proofs.Common.{◌≡◌, ℕ, zero, suc, ◌*◌, ◌<◌, Bool, true, false, not, IsTrue, Option, Some, None, List, [], ◌∷◌, length, get_or, refl, sym, ◌∙◌, ap, subst, arith, ◌⊎◌, inl, inr, ⊎_elim, slice_get, slice_index_or, filter, cond}
use Rattle.grid.proofs.Common.{slice_get-get_or, row_count, col_count, cell, IsTable, InRange, with_cell, storage, place, positions, same_tables, cell-with_same, cell-with_other, has_place, get-places, get-zip, get-storage, length-storage, IsSize-table, GivesCells, IsCellAt}
use Rattle.grid.proofs.IndexedIteratorLemmas.{gives_cells_of}
use Rattle.grid.specs.Prelude.{set_cell, run_rows, step_rows}
use Rattle.grid_base.proofs.PlacedCellLemmas.{zip_within}
use Rattle.grid_base.proofs.StorageLemmas.{place_within}
use Rattle.grid_base.proofs.WriteLemmas.{IsTable-with_cell, rows-written, cols-with_cell, same_or_other}
use Rattle.grid_base.specs.Iterators.{indexed_cells}
use Rattle.grid_base.specs.declared.order.Order.TheVariants.{RowMajor}
use Rattle.grid_changes.specs.Differences.{is_cell, changed_cells, writes}
use Rattle.grid_changes.proofs.AskedLemmas.{is_in_range}
use Rattle.grid_changes.proofs.StepLemmas.{at_within}

module _ {X : Type 0} where
  -- what holds of each item of a list, and which lists have an item that it holds of
  abbrev pub Each : (X → Type 0) → List X → Type 0
  Each P [] = Unit {0}
  Each P (x ∷ xs) = P x × Each P xs

  abbrev pub Some_of : (X → Type 0) → List X → Type 0
  Some_of P [] = ⊥
  Some_of P (x ∷ xs) = P x ⊎ Some_of P xs

  each_at : (P : X → Type 0) (xs : List X) → ((k : ℕ) (x : X) → slice_get xs k ≡ Some x → P x) → Each P xs
  each_at P [] h = tt
  each_at P (x ∷ xs) h = (h 0 x refl, each_at P xs (λ k y e. h (suc k) y e))

  -- and of what passes a test
  each_cond : (P : X → Type 0) (b : Bool) (x : X) (xs : List X) → P x → Each P xs → Each P (cond b (x ∷ xs) xs)
  each_cond P true x xs h k = (h, k)
  each_cond P false x xs h k = k

  each_kept : (P : X → Type 0) (test : X → Bool) (xs : List X) → Each P xs → Each P (filter test xs)
  each_kept P test [] h = tt
  each_kept P test (x ∷ xs) h = each_cond P (test x) x (filter test xs) h.0 (each_kept P test xs h.1)

  some_cond : (P : X → Type 0) (b : Bool) (x : X) (xs : List X) → Some_of P xs → Some_of P (cond b (x ∷ xs) xs)
  some_cond P true x xs k = inr k
  some_cond P false x xs k = k

  some_kept : (P : X → Type 0) (test : X → Bool) (xs : List X) (k : ℕ) (x : X) → slice_get xs k ≡ Some x → test x ≡ true → P x → Some_of P (filter test xs)
  some_kept P test [] k x e pass h = absurd (cc e)
  some_kept P test (y ∷ xs) zero x e pass h =
      let same : y ≡ x = cc in
      let is : Some_of P (cond true (y ∷ filter test xs) (filter test xs)) = inl (subst P (sym same) h) in
      let there : test y ≡ true = ap test same ∙ pass in
      subst (λ b. Some_of P (cond b (y ∷ filter test xs) (filter test xs))) (sym there) is
  some_kept P test (y ∷ xs) (suc k) x e pass h = some_cond P (test y) y (filter test xs) (some_kept P test xs k x e pass h)

module _ {T : Type 0} (d : T) (u : List (List T)) (hu : IsTable u) where
  -- a cell of u at its position, and a position of such a cell
  abbrev IsOwn : (ℕ × ℕ) × T → Type 0
  IsOwn p = InRange u (p.0).0 (p.0).1 × (cell u (p.0).0 (p.0).1 ≡ Some p.1)

  -- t has u's size, and u's cells but at the positions of a list
  record Nearly (ps : List ((ℕ × ℕ) × T)) (t : List (List T)) : Type 0 where
    is_table : IsTable t
    rows : row_count t ≡ row_count u
    cols : col_count t ≡ col_count u
    cells : (r c : ℕ) → r < row_count u → c < col_count u → (cell t r c ≡ cell u r c) ⊎ Some_of (λ (p : (ℕ × ℕ) × T). p.0 ≡ (r, c)) ps

  step_set : (t : List (List T)) (p : (ℕ × ℕ) × T) → InRange t (p.0).0 (p.0).1 → step_rows d (set_cell (p.0).0 (p.0).1 p.1) t ≡ with_cell t (p.0).0 (p.0).1 p.1
  unfolding step_rows
  step_set t p within = rw (is_in_range t p.0 within) refl

  written : (ps : List ((ℕ × ℕ) × T)) (t : List (List T)) → Each IsOwn ps → Nearly ps t → run_rows d (writes ps) t ≡ u
  written [] t own n =
      same_tables t u n.rows (λ r lt. n.is_table.even r lt ∙ (n.cols ∙ sym (hu.even r (omega (arith, n.rows, lt)))))
      (λ r c lr lc.
      ⊎_elim {C = cell t r c ≡ cell u r c} (λ e. e) (λ none. absurd none)
      (n.cells r c (omega (arith, n.rows, lr)) (omega (arith, n.cols, n.is_table.even r lr, lc))))
  written (p ∷ ps) t own n =
      let r = (p.0).0 in
      let c = (p.0).1 in
      let within : InRange t r c = (omega (arith, n.rows, own.0.0.0), omega (arith, n.cols, own.0.0.1)) in
      let rows : row_count (with_cell t r c p.1) ≡ row_count u = rows-written t r c p.1 ∙ n.rows in
      let cols : col_count (with_cell t r c p.1) ≡ col_count u = cols-with_cell t n.is_table r c p.1 ∙ n.cols in
      ap (run_rows d (writes ps)) (step_set t p within)
      ∙ written ps (with_cell t r c p.1) own.1
      (record {
        is_table = IsTable-with_cell t n.is_table r c p.1;
        rows = rows;
        cols = cols;
        cells = λ i j li lj.
            ⊎_elim {C = (cell (with_cell t r c p.1) i j ≡ cell u i j) ⊎ Some_of (λ (q : (ℕ × ℕ) × T). q.0 ≡ (i, j)) ps}
            (λ e.
            inl (ap (λ (a : ℕ × ℕ). cell (with_cell t r c p.1) a.0 a.1) e
            ∙ (cell-with_same t n.is_table r c p.1 within.0 within.1
            ∙ (sym own.0.1 ∙ ap (λ (a : ℕ × ℕ). cell u a.0 a.1) (sym e)))))
            (λ far.
            ⊎_elim {C = (cell (with_cell t r c p.1) i j ≡ cell u i j) ⊎ Some_of (λ (q : (ℕ × ℕ) × T). q.0 ≡ (i, j)) ps}
            (λ e. inl (cell-with_other t r c p.1 i j far ∙ e))
            (λ there. ⊎_elim (λ here. absurd (far (sym (ap (λ (a : ℕ × ℕ). a.0) here)) (sym (ap (λ (a : ℕ × ℕ). a.1) here)))) (λ later. inr later) there)
            (n.cells i j li lj))
            (same_or_other (i, j) (r, c));
      })

  -- the cells of u with their positions
  module _ (same : T → T → Bool) (t : List (List T)) (ht : IsTable t) (em : row_count t ≡ row_count u) (en : col_count t ≡ col_count u) (equal : (x y : T) → IsTrue (same x y) → x ≡ y) where
    abbrev all : List ((ℕ × ℕ) × T)
    all = indexed_cells RowMajor u

    abbrev cells_of : List T
    cells_of = storage RowMajor u

    count : length cells_of ≡ row_count u * col_count u
    count = length-storage RowMajor u hu

    -- the item at a place
    pair_at : (k r c : ℕ) (x : T) → r < row_count u → c < col_count u → place RowMajor (row_count u) (col_count u) r c ≡ k → slice_get cells_of k ≡ Some x → (slice_get all k ≡ Some ((r, c), x)) × (cell u r c ≡ Some x)
    pair_at k r c x lr lc is e =
        let there : slice_get (positions RowMajor (row_count u) (col_count u)) k ≡ Some (r, c) =
        ap (slice_get (positions RowMajor (row_count u) (col_count u))) (sym is) ∙ get-places RowMajor (row_count u) (col_count u) r c (IsSize-table u hu) lr lc in
        let stored : slice_get cells_of k ≡ cell u r c = ap (slice_get cells_of) (sym is) ∙ get-storage RowMajor u r c hu lr lc in
        (get-zip (positions RowMajor (row_count u) (col_count u)) cells_of k (r, c) x there e, sym stored ∙ e)

    own_all : Each IsOwn all
    own_all = each_at IsOwn all own_at
      where
        own_at : (k : ℕ) (p : (ℕ × ℕ) × T) → slice_get all k ≡ Some p → IsOwn p
        own_at k p e =
            let lt : k < length cells_of = omega (arith, at_within all k p e, zip_within (positions RowMajor (row_count u) (col_count u)) cells_of) in
            let w = has_place RowMajor (row_count u) (col_count u) k (omega (arith, lt, count)) in
            let x = get_or cells_of k d in
            let pair = pair_at k w.r w.c x w.lr w.lc w.is (slice_get-get_or cells_of k d lt) in
            let both : ◌≡◌ {A = Option ((ℕ × ℕ) × T)} (Some p) (Some ((w.r, w.c), x)) = sym e ∙ pair.0 in
            let is : ◌≡◌ {A = (ℕ × ℕ) × T} p ((w.r, w.c), x) = cc both in
            subst IsOwn (sym is) ((w.lr, w.lc), pair.1)

    abbrev is_new : (ℕ × ℕ) × T → Bool
    is_new p = not (is_cell same (cell t (p.0).0 (p.0).1) p.1)

    near : Nearly (changed_cells same t u) t
    near = record { is_table = ht; rows = em; cols = en; cells = at_cell }
      where
        at_cell : (r c : ℕ) → r < row_count u → c < col_count u → (cell t r c ≡ cell u r c) ⊎ Some_of (λ (p : (ℕ × ℕ) × T). p.0 ≡ (r, c)) (changed_cells same t u)
        at_cell r c lr lc = by (cell t r c) refl
          where
            k : ℕ
            k = place RowMajor (row_count u) (col_count u) r c

            x : T
            x = get_or cells_of k d

            pair : (slice_get all k ≡ Some ((r, c), x)) × (cell u r c ≡ Some x)
            pair = pair_at k r c x lr lc refl (slice_get-get_or cells_of k d (omega (arith, count, place_within RowMajor (row_count u) (col_count u) r c lr lc)))

            later : is_new ((r, c), x) ≡ true → Some_of (λ (p : (ℕ × ℕ) × T). p.0 ≡ (r, c)) (changed_cells same t u)
            later pass = some_kept (λ (p : (ℕ × ℕ) × T). p.0 ≡ (r, c)) is_new all k ((r, c), x) pair.0 pass refl

            test : (y : T) (b : Bool) → cell t r c ≡ Some y → same y x ≡ b → (cell t r c ≡ cell u r c) ⊎ Some_of (λ (p : (ℕ × ℕ) × T). p.0 ≡ (r, c)) (changed_cells same t u)
            test y true e f = inl (e ∙ (ap Some (equal y x f) ∙ sym pair.1))
            test y false e f = inr (later (ap (λ o. not (is_cell same o x)) e ∙ ap not f))

            by : (o : Option T) → cell t r c ≡ o → (cell t r c ≡ cell u r c) ⊎ Some_of (λ (p : (ℕ × ℕ) × T). p.0 ≡ (r, c)) (changed_cells same t u)
            by None e = inr (later (ap (λ o. not (is_cell same o x)) e))
            by (Some y) e = test y (same y x) e refl

    -- written one after another, they make t be u
    pub writes_make : run_rows d (writes (changed_cells same t u)) t ≡ u
    writes_make = written (changed_cells same t u) t (each_kept IsOwn is_new all own_all) near

-- each item that tells where a table differs from another is a position of the table, and the cell there
module _ {T : Type 0} (u : List (List T)) (hu : IsTable u) where
  each_get : (P : (ℕ × ℕ) × T → Type 0) (xs : List ((ℕ × ℕ) × T)) (k : ℕ) (d : (ℕ × ℕ) × T) → k < length xs → Each P xs → P (get_or xs k d)
  each_get P [] k d lt h = absurd (omega (arith, lt))
  each_get P (x ∷ xs) zero d lt h = h.0
  each_get P (x ∷ xs) (suc k) d lt h = each_get P xs k d (omega (arith, lt)) h.1

  is_own : (k : ℕ) (p : (ℕ × ℕ) × T) → slice_get (indexed_cells RowMajor u) k ≡ Some p → IsCellAt u p.0 p.1
  is_own k p e =
      let m = row_count u in
      let n = col_count u in
      let cells = storage RowMajor u in
      let lt : k < length cells = omega (arith, at_within (indexed_cells RowMajor u) k p e, zip_within (positions RowMajor m n) cells) in
      let w = has_place RowMajor m n k (omega (arith, lt, length-storage RowMajor u hu)) in
      let x = get_or cells k p.1 in
      let found : slice_get cells k ≡ Some x = slice_get-get_or cells k p.1 lt in
      let there : slice_get (positions RowMajor m n) k ≡ Some (w.r, w.c) =
      ap (slice_get (positions RowMajor m n)) (sym w.is) ∙ get-places RowMajor m n w.r w.c (IsSize-table u hu) w.lr w.lc in
      let stored : slice_get cells k ≡ cell u w.r w.c = ap (slice_get cells) (sym w.is) ∙ get-storage RowMajor u w.r w.c hu w.lr w.lc in
      let both : ◌≡◌ {A = Option ((ℕ × ℕ) × T)} (Some p) (Some ((w.r, w.c), x)) = sym e ∙ get-zip (positions RowMajor m n) cells k (w.r, w.c) x there found in
      let is : ◌≡◌ {A = (ℕ × ℕ) × T} p ((w.r, w.c), x) = cc both in
      subst (λ (z : (ℕ × ℕ) × T). IsCellAt u z.0 z.1) (sym is) ((w.lr, w.lc), sym stored ∙ found)

  pub gives_changes : (same : T → T → Bool) (t : List (List T)) (s : List ((ℕ × ℕ) × T)) → s ≡ changed_cells same t u → GivesCells u s
  gives_changes same t s is = gives_cells_of u (changed_cells same t u) each s is
    where
      each : (k : ℕ) (x : (ℕ × ℕ) × T) → k < length (changed_cells same t u) → x ≡ slice_index_or (changed_cells same t u) k x → IsCellAt u x.0 x.1
      each k x lt e =
          subst (λ (z : (ℕ × ℕ) × T). IsCellAt u z.0 z.1) (sym e)
          (each_get (λ z. IsCellAt u z.0 z.1) (changed_cells same t u) k x lt
          (each_kept (λ z. IsCellAt u z.0 z.1) (λ p. not (is_cell same (cell t (p.0).0 (p.0).1) p.1)) (indexed_cells RowMajor u)
          (each_at (λ z. IsCellAt u z.0 z.1) (indexed_cells RowMajor u) is_own)))
