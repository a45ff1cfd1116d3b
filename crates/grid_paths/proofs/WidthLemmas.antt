-- The sums that a table of numbers holds, and what waits after a push and after a pop.
use Rattle.std.proofs.Common.{◌≡◌, ℕ, ◌*◌, ◌<◌, ◌≤◌, Option, None, Some, List, [], ◌∷◌, length, set, refl, sym, ◌∙◌, ap, subst, arith, map, option_map, slice_get, IsPermutation, IsSomeAnd, Result, Ok, Err, IfOk, Bor}
use Rattle.std.proofs.Math.ListN.{get_or-map}
use Rattle.std.proofs.lemmas.Nat.{mul-le}
use Rattle.std.proofs.lemmas.List.{map-set}
use Rattle.std.proofs.lemmas.List.Sorted.{IsPermutation-map}
use Rattle.grid_paths.proofs.Common.{length-map, slice_get-map, row, row_count, col_count, cell, with_cell, tabulate, IsTable, IsFull, IsFull-cells, tabulate-same, tabulate-cells, InRange, cell_in_range, Holds, Reading, numbers, narrow, HasRoom, Entry, entry_of, GridValue, SameSizeAndOrder, MappedBy}
use Rattle.std.specs.declared.cmp.Reverse.{Reverse}

module _ {N : Type 0} (w : Reading N) (t : List (List N)) where
  numbers-row : (r : ℕ) → row (numbers w t) r ≡ map w.number (row t r)
  numbers-row r = get_or-map (map w.number) t r []

  pub numbers-cell : (r c : ℕ) → cell (numbers w t) r c ≡ option_map w.number (cell t r c)
  numbers-cell r c = ap (λ xs. slice_get xs c) (numbers-row r) ∙ slice_get-map w.number (row t r) c

  pub numbers-there : (r c : ℕ) (x : N) → cell t r c ≡ Some x → cell (numbers w t) r c ≡ Some (w.number x)
  numbers-there r c x e = numbers-cell r c ∙ ap (λ o. option_map w.number o) e

  numbers-width : (r : ℕ) → length (row (numbers w t) r) ≡ length (row t r)
  numbers-width r = ap length (numbers-row r) ∙ length-map (row t r) w.number

  pub numbers-rows : row_count (numbers w t) ≡ row_count t
  numbers-rows = length-map t (map w.number)

  pub numbers-cols : col_count (numbers w t) ≡ col_count t
  numbers-cols = numbers-width 0

  pub numbers-inside : (at : ℕ × ℕ) → InRange t at.0 at.1 → InRange (numbers w t) at.0 at.1
  numbers-inside at i =
      let lr : at.0 < row_count t = i.0 in
      let lc : at.1 < col_count t = i.1 in
      (omega (arith, numbers-rows), omega (arith, numbers-cols))

  pub numbers-table : IsTable t → IsTable (numbers w t)
  numbers-table h =
      record {
        nonempty = λ r lt. let l : r < length t = omega (arith, numbers-rows) in omega (arith, numbers-width r, h.nonempty r l);
        even = λ r lt. let l : r < length t = omega (arith, numbers-rows) in numbers-width r ∙ (h.even r l ∙ sym (numbers-width 0));
      }

  -- a number is written
  pub numbers-with : (r c : ℕ) (x : N) → numbers w (with_cell t r c x) ≡ with_cell (numbers w t) r c (w.number x)
  numbers-with r c x =
      map-set (map w.number) t r (set (row t r) c x)
      ∙ ap (λ ys. set (numbers w t) r ys) (map-set w.number (row t r) c x ∙ ap (λ xs. set xs c (w.number x)) (sym (numbers-row r)))

  -- cell by cell
  pub numbers-tabulated : IsTable t → tabulate (row_count t) (col_count t) (λ r c. option_map w.number (cell t r c)) ≡ numbers w t
  numbers-tabulated h =
      let u = numbers w t in
      let table = numbers-table h in
      let full : IsFull (row_count t) (col_count t) (cell u) = subst (λ n. IsFull (row_count t) n (cell u)) numbers-cols
      (subst (λ m. IsFull m (col_count u) (cell u)) numbers-rows (IsFull-cells u table)) in
      let whole : tabulate (row_count t) (col_count t) (cell u) ≡ u = subst (λ n. tabulate (row_count t) n (cell u) ≡ u) numbers-cols
      (subst (λ m. tabulate m (col_count u) (cell u) ≡ u) numbers-rows (tabulate-cells u table)) in
      tabulate-same (row_count t) (col_count t) (λ r c. option_map w.number (cell t r c)) (cell u) (λ r c lr lc. sym (numbers-cell r c)) full
      ∙ whole

one_some : {X : Type 0} (o : Option X) (f : X → Option ℕ) (k : ℕ) → option_map f o ≡ Some (Some k) → (x : X) × (o ≡ Some x) × (f x ≡ Some k)
one_some None f k e = absurd (cc)
one_some (Some x) f k e = let is : f x ≡ Some k = cc in (x, refl, is)

-- where no number stands for a sum there is none
pub numbers-none : {N : Type 0} (w : Reading N) (t : List (List N)) → IsTable t → ((r c : ℕ) (x : N) → InRange t r c → cell t r c ≡ Some x → w.number x ≡ None) → (a : ℕ × ℕ) (k : ℕ) → Holds (numbers w t) a k → ⊥
numbers-none w t h none a k e =
    let v = one_some (cell t a.0 a.1) w.number k (sym (numbers-cell w t a.0 a.1) ∙ e) in
    let clash : ◌≡◌ {A = Option ℕ} None (Some k) = sym (none a.0 a.1 v.0 (cell_in_range t h a.0 a.1 v.0 v.1) v.1) ∙ v.2 in
    cc

-- the grids that closures make
module _ {G E T N : Type 0} (w : Reading N) where
  pub numbers-none_made : (v : GridValue T) (Q : G → ℕ × ℕ → Bor T → N → Type 0) (q : G) (r : Result (GridValue N) E) → IfOk r (SameSizeAndOrder v) → IfOk r (λ g. MappedBy Q q v.rows g.rows) → ((i j : ℕ) (p : Bor T) (y : N) → Q q (i, j) p y → w.number y ≡ None) → IfOk r (λ g. (a : ℕ × ℕ) (k : ℕ) → Holds (numbers w g.rows) a k → ⊥)
  numbers-none_made v Q q (Ok g) same cells says =
      numbers-none w g.rows g.table
      (λ i j x inside e.
      let lr : i < row_count g.rows = inside.0 in
      let lc : j < col_count g.rows = inside.1 in
      let rows = same.rows in
      let cols = same.cols in
      let lr1 : i < row_count v.rows = omega arith in
      let lc1 : j < col_count v.rows = omega arith in
      let found : IsSomeAnd (Some x) (λ y. (p : Bor T) × (cell v.rows i j ≡ Some p.now) × Q q (i, j) p y) = subst (λ o. IsSomeAnd o (λ y. (p : Bor T) × (cell v.rows i j ≡ Some p.now) × Q q (i, j) p y)) e (cells.answers i j (lr1, lc1)) in
      says i j found.0 x found.2)
  numbers-none_made v Q q (Err e) same cells says = tt

module _ {G E N : Type 0} (w : Reading N) where
  pub numbers-made : (v : GridValue N) (Q : G → ℕ × ℕ → Bor N → Option ℕ → Type 0) (q : G) (r : Result (GridValue (Option ℕ)) E) → IfOk r (λ g. MappedBy Q q v.rows g.rows) → ((i j : ℕ) (p : Bor N) (y : Option ℕ) → Q q (i, j) p y → y ≡ w.number p.now) → IfOk r (λ g. g.rows ≡ numbers w v.rows)
  numbers-made v Q q (Ok g) cells says =
      cells.tabulated (λ i j. option_map w.number (cell v.rows i j))
      (λ i j p y inside at h. ap (λ o. option_map w.number o) at ∙ ap Some (sym (says i j p y h)))
      ∙ numbers-tabulated w v.rows v.table
  numbers-made v Q q (Err e) cells says = tt

module _ {N : Type 0} (w : Reading N) (x p : N) (sum : ℕ) (at : ℕ × ℕ) (is_sum : w.value x ≡ sum) (is_at : w.position p ≡ at) where
  its_entry : ◌≡◌ {A = Entry} (record { 0 = (w.value x, w.position p) }) (record { 0 = (sum, at) })
  its_entry = λ i. record { 0 = (is_sum i, is_at i) }

  -- an item is put among others
  pub waits_too : (heap heap' : List (Reverse (N × N))) → IsPermutation (record { 0 = (x, p) } ∷ heap) heap' → IsPermutation (record { 0 = (sum, at) } ∷ map (entry_of w) heap) (map (entry_of w) heap')
  waits_too heap heap' h =
      subst (λ y. IsPermutation (y ∷ map (entry_of w) heap) (map (entry_of w) heap')) its_entry
      (IsPermutation-map (entry_of w) (record { 0 = (x, p) } ∷ heap) heap' h)

  -- or taken from them
  pub waits_no_more : (heap heap' : List (Reverse (N × N))) → IsPermutation heap (record { 0 = (x, p) } ∷ heap') → IsPermutation (map (entry_of w) heap) (record { 0 = (sum, at) } ∷ map (entry_of w) heap')
  waits_no_more heap heap' h =
      subst (λ y. IsPermutation (map (entry_of w) heap) (y ∷ map (entry_of w) heap')) its_entry
      (IsPermutation-map (entry_of w) heap (record { 0 = (x, p) } ∷ heap') h)

-- a table of few cells has few rows and columns
pub HasRoom-narrow : {T : Type 0} (t : List (List T)) → IsTable t → row_count t * col_count t < 4294967295 → HasRoom narrow t
HasRoom-narrow [] h few = record { rows = omega arith; cols = omega arith; sums = omega arith }
HasRoom-narrow (x ∷ t) h few =
    let first = h.nonempty 0 (omega arith) in
    let rows : row_count (x ∷ t) * 1 ≤ row_count (x ∷ t) * col_count (x ∷ t) = mul-le (row_count (x ∷ t)) 1 (row_count (x ∷ t)) (col_count (x ∷ t)) (omega arith) (omega (arith, first)) in
    let cols : 1 * col_count (x ∷ t) ≤ row_count (x ∷ t) * col_count (x ∷ t) = mul-le 1 (col_count (x ∷ t)) (row_count (x ∷ t)) (col_count (x ∷ t)) (omega arith) (omega arith) in
    record { rows = omega arith; cols = omega arith; sums = omega arith }
