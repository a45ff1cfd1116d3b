-- The cells from a position on in a direction.
use Rattle.std.proofs.Common.{◌≡◌, ℕ, zero, suc, ◌+◌, ◌-◌, ◌*◌, ◌<◌, ◌≤◌, ◌&&◌, Bool, true, false, cond, nat_lt, Option, None, Some, List, [], ◌∷◌, length, sym, ◌∙◌, ap, refl, arith, filter_map, slice_get, option_map, ⊎_elim, IsSome}
use Rattle.std.specs.List.{range_with_len}
use Rattle.std.proofs.lemmas.Bool.{cases_lt, lt-ltb, ltb-true}
use Rattle.std.proofs.lemmas.List.{nil_from_length}
use Rattle.std.proofs.lemmas.Option.{slice_get_within, slice_get_read}
use Rattle.grid_base.specs.Table.{cells_by, row_count, col_count, cell, IsTable, InRange}
use Rattle.grid_base.specs.IndexedIterators.{IsCellAt, GivesCells}
use Rattle.grid_base.proofs.Common.{cons_option}
use Rattle.grid_base.proofs.TableLemmas.{cell_in_range, length-line, slice_get-line, IsFull-cells}
use Rattle.grid_near.specs.declared.direction.Direction.{Direction}
use Rattle.grid_near.specs.Directions.{box_of}
use Rattle.grid_near.specs.Neighbors.{cell_at}
use Rattle.grid_near.proofs.NeighborLemmas.{cells_in_order, positions_in_order}
use Rattle.grid.proofs.IndexedIteratorLemmas.{gives_cells_of}
use Rattle.grid_rays.specs.Rays.{back_by, moved, cell_ahead, ray, IsRay, GivesRay}
use Rattle.grid_rays.specs.Steps.{Reaches, HasSteps, cells_ahead}

-- the number k before another
back_by_is : (n k x : ℕ) → x + k ≡ n → back_by n k ≡ Some x
back_by_is n zero x e = let same : n ≡ x = omega arith in ap Some same
back_by_is zero (suc k) x e = absurd (omega arith)
back_by_is (suc n) (suc k) x e = back_by_is n k x (omega arith)

back_by_of : (n k x : ℕ) → back_by n k ≡ Some x → x + k ≡ n
back_by_of n zero x e = let same : n ≡ x = cc in omega arith
back_by_of zero (suc k) x e = absurd (cc)
back_by_of (suc n) (suc k) x e = omega (arith, back_by_of n k x e)

-- a step less from one step on
moved_on : (b n m k : ℕ) → m + 1 ≡ n + b → moved b n (k + 1) ≡ moved b m k
moved_on b n m k e =
    let one : k + 1 ≡ suc k = omega arith in
    let more : n + suc k * b ≡ suc (m + k * b) = omega arith in
    ap (λ j. moved b n j) one ∙ ap (λ j. back_by j (suc k)) more

none_or : {X : Type 0} (o : Option X) → ((x : X) → o ≡ Some x → ⊥) → o ≡ None
none_or None h = refl
none_or (Some x) h = absurd (h x refl)

is_some_of : {X : Type 0} (o : Option X) (x : X) → o ≡ Some x → IsSome o
is_some_of None x e = absurd (cc)
is_some_of (Some y) x e = refl

some_of : {X : Type 0} (o : Option X) → IsSome o → (x : X) × (o ≡ Some x)
some_of None h = absurd (cc)
some_of (Some x) h = (x, refl)

-- cells that are found by number: none past some number, and the first of them
module _ {X : Type 0} where
  cut_from : (f : ℕ → Option X) (c n a : ℕ) → c ≤ n → ((k : ℕ) → a + c ≤ k → f k ≡ None) → filter_map f (range_with_len a n) ≡ filter_map f (range_with_len a c)
  cut_from f zero zero a le none = refl
  cut_from f zero (suc n) a le none =
      ap (λ o. cons_option o (filter_map f (range_with_len (a + 1) n))) (none a (omega arith))
      ∙ cut_from f zero n (a + 1) (omega arith) (λ k past. none k (omega arith))
  cut_from f (suc c) zero a le none = absurd (omega arith)
  cut_from f (suc c) (suc n) a le none =
      ap (cons_option (f a)) (cut_from f c n (a + 1) (omega arith) (λ k past. none k (omega arith)))

  cells_by-cut : (f : ℕ → Option X) (c n : ℕ) → c ≤ n → ((k : ℕ) → c ≤ k → f k ≡ None) → cells_by n f ≡ cells_by c f
  unfolding cells_by
  cells_by-cut f c n le none = cut_from f c n 0 le (λ k past. none k (omega arith))

  on_from : (f g : ℕ → Option X) → ((k : ℕ) → f (k + 1) ≡ g k) → (n a b : ℕ) → b ≡ a + 1 → filter_map f (range_with_len b n) ≡ filter_map g (range_with_len a n)
  on_from f g on zero a b e = refl
  on_from f g on (suc n) a b e =
      ap (λ o. cons_option o (filter_map f (range_with_len (b + 1) n))) (ap f e ∙ on a)
      ∙ ap (cons_option (g a)) (on_from f g on n (a + 1) (b + 1) (omega arith))

  cells_by-first : (f g : ℕ → Option X) (x : X) (n left : ℕ) → left ≡ n + 1 → f 0 ≡ Some x → ((k : ℕ) → f (k + 1) ≡ g k) → cells_by left f ≡ x ∷ cells_by n g
  unfolding cells_by
  cells_by-first f g x n left e first on =
      let one : left ≡ suc n = omega arith in
      ap (λ l. filter_map f (range_with_len 0 l)) one
      ∙ (ap (λ o. cons_option o (filter_map f (range_with_len 1 n))) first
      ∙ ap (λ rest. x ∷ rest) (on_from f g on n 0 1 refl))

-- what is k steps on
module _ {T : Type 0} where
  of_cell : (q : ℕ × ℕ) (o : Option T) (x : (ℕ × ℕ) × T) → option_map {U = (ℕ × ℕ) × T} (λ y. (q, y)) o ≡ Some x → (q ≡ x.0) × (o ≡ Some x.1)
  of_cell q None x e = absurd (cc)
  of_cell q (Some y) x e = let same : ◌≡◌ {A = (ℕ × ℕ) × T} (q, y) x = cc in (ap (λ z. z.0) same, ap (λ z. Some z.1) same)

  of_cell_at : (f : ℕ → ℕ → Option T) (r c : Option ℕ) (x : (ℕ × ℕ) × T) → cell_at f (r, c) ≡ Some x → (r ≡ Some x.0.0) × (c ≡ Some x.0.1) × (f x.0.0 x.0.1 ≡ Some x.1)
  of_cell_at f None c x e = absurd (cc)
  of_cell_at f (Some r) None x e = absurd (cc)
  of_cell_at f (Some r) (Some c) x e =
      let w = of_cell (r, c) (f r c) x e in
      (ap (λ (q : ℕ × ℕ). Some q.0) w.0, ap (λ (q : ℕ × ℕ). Some q.1) w.0, ap (λ (q : ℕ × ℕ). f q.0 q.1) (sym w.0) ∙ w.1)

module _ {T : Type 0} (t : List (List T)) (step at : ℕ × ℕ) where
  pub cell_ahead_is : (k : ℕ) (to : ℕ × ℕ) (x : T) → to.0 + k ≡ at.0 + k * step.0 → to.1 + k ≡ at.1 + k * step.1 → cell t to.0 to.1 ≡ Some x → cell_ahead t step at k ≡ Some (to, x)
  cell_ahead_is k to x row col there =
      ap (λ r. cell_at (cell t) (r, moved step.1 at.1 k)) (back_by_is (at.0 + k * step.0) k to.0 row)
      ∙ (ap (λ c. cell_at (cell t) (Some to.0, c)) (back_by_is (at.1 + k * step.1) k to.1 col)
      ∙ ap (option_map {U = (ℕ × ℕ) × T} (λ y. (to, y))) there)

  cell_ahead_of : (k : ℕ) (x : (ℕ × ℕ) × T) → cell_ahead t step at k ≡ Some x → (x.0.0 + k ≡ at.0 + k * step.0) × (x.0.1 + k ≡ at.1 + k * step.1) × (cell t x.0.0 x.0.1 ≡ Some x.1)
  cell_ahead_of k x e =
      let w = of_cell_at (cell t) (moved step.0 at.0 k) (moved step.1 at.1 k) x e in
      (back_by_of _ k x.0.0 w.0, back_by_of _ k x.0.1 w.1, w.2)

-- steps that stay within a table
module _ {T : Type 0} (t : List (List T)) (h : IsTable t) (step at : ℕ × ℕ) where
  abbrev spot : ℕ → ℕ × ℕ
  spot k = (at.0 + k * step.0 - k, at.1 + k * step.1 - k)

  reaches_cell : (k : ℕ) → Reaches (row_count t, col_count t) step at k → (x : T) × (cell t (spot k).0 (spot k).1 ≡ Some x)
  reaches_cell k r = some_of (cell t (spot k).0 (spot k).1) ((IsFull-cells t h).full (spot k).0 (spot k).1 (omega (arith, r.above, r.below)) (omega (arith, r.before, r.after)))

  pub found_ahead : (k : ℕ) → Reaches (row_count t, col_count t) step at k → (x : T) × (cell_ahead t step at k ≡ Some (spot k, x))
  found_ahead k r =
      let w = reaches_cell k r in
      (w.0, cell_ahead_is t step at k (spot k) w.0 (omega (arith, r.above)) (omega (arith, r.before)) w.1)

  reaches_of : (k : ℕ) (x : (ℕ × ℕ) × T) → cell_ahead t step at k ≡ Some x → Reaches (row_count t, col_count t) step at k
  reaches_of k x e =
      let w = cell_ahead_of t step at k x e in
      let inside = cell_in_range t h x.0.0 x.0.1 x.1 w.2 in
      record { above = omega (arith, w.0); below = omega (arith, w.0, inside.0); before = omega (arith, w.1); after = omega (arith, w.1, inside.1) }

  module _ (left : ℕ) (steps : HasSteps (row_count t, col_count t) step at left) where
    abbrev item : ℕ → Option ((ℕ × ℕ) × T)
    item k = cell_ahead t step at (k + 1)

    each_item : (k : ℕ) → k < left → IsSome (item k)
    each_item k lt =
        let w = found_ahead (k + 1) (steps.each (k + 1) (omega arith) (omega arith)) in
        is_some_of (item k) (spot (k + 1), w.0) w.1

    pub length-cells_ahead : length (cells_ahead t step at left) ≡ left
    length-cells_ahead = length-line left item each_item

    item_of : (k : ℕ) (x : (ℕ × ℕ) × T) → slice_get (cells_ahead t step at left) k ≡ Some x → (k < left) × (cell_ahead t step at (k + 1) ≡ Some x)
    item_of k x e =
        let lt : k < left = omega (arith, slice_get_within (cells_ahead t step at left) k x e, length-cells_ahead) in
        (lt, sym (slice_get-line left item k each_item lt) ∙ e)

    pub there_of : (k : ℕ) (x : (ℕ × ℕ) × T) → slice_get (cells_ahead t step at left) k ≡ Some x → IsCellAt t x.0 x.1
    there_of k x e =
        let w = cell_ahead_of t step at (k + 1) x (item_of k x e).1 in
        (cell_in_range t h x.0.0 x.0.1 x.1 w.2, w.2)

    gives_ahead : (s : List ((ℕ × ℕ) × T)) → s ≡ cells_ahead t step at left → GivesCells t s
    gives_ahead s is =
        gives_cells_of t (cells_ahead t step at left) (λ k x lt e. there_of k x (slice_get_read (cells_ahead t step at left) left k x (sym length-cells_ahead) (omega (arith, length-cells_ahead)) e)) s is

    -- the first of them, and those behind it
    module _ (n : ℕ) (to : ℕ × ℕ) (one : left ≡ n + 1) (row : to.0 + 1 ≡ at.0 + step.0) (col : to.1 + 1 ≡ at.1 + step.1) where
      pub first_ahead : (x : T) → cell t to.0 to.1 ≡ Some x → cells_ahead t step at left ≡ (to, x) ∷ cells_ahead t step to n
      first_ahead x there =
          cells_by-first item (λ k. cell_ahead t step to (k + 1)) (to, x) n left one
          (cell_ahead_is t step at 1 to x (omega arith) (omega arith) there)
          (λ k. ap (λ r. cell_at (cell t) (r, moved step.1 at.1 (k + 1 + 1))) (moved_on step.0 at.0 to.0 (k + 1) row)
          ∙ ap (λ c. cell_at (cell t) (moved step.0 to.0 (k + 1), c)) (moved_on step.1 at.1 to.1 (k + 1) col))

-- all cells that way
module _ {T : Type 0} (t : List (List T)) (h : IsTable t) (way : Direction) (at : ℕ × ℕ) (left : ℕ) (steps : HasSteps (row_count t, col_count t) (box_of way) at left) where
  abbrev cells : List ((ℕ × ℕ) × T)
  cells = cells_ahead t (box_of way) at left

  within_ray : InRange t at.0 at.1 → ((k : ℕ) → left < k → Reaches (row_count t, col_count t) (box_of way) at k → ⊥) → left ≤ row_count t + col_count t → cells ≡ ray t way at
  unfolding ray
  within_ray inside beyond few =
      let all = cells_by (row_count t + col_count t) (λ k. cell_ahead t (box_of way) at (k + 1)) in
      sym (cells_by-cut (λ k. cell_ahead t (box_of way) at (k + 1)) left (row_count t + col_count t) few (λ k past. none_or (cell_ahead t (box_of way) at (k + 1)) (λ x e. beyond (k + 1) (omega arith) (reaches_of t h (box_of way) at (k + 1) x e))))
      ∙ sym (ap (λ b. cond (b && nat_lt at.1 (col_count t)) all []) (lt-ltb at.0 (row_count t) inside.0) ∙ ap (λ b. cond b all []) (lt-ltb at.1 (col_count t) inside.1))

  no_ray : (InRange t at.0 at.1 → ⊥) → ray t way at ≡ []
  unfolding ray
  no_ray outside = by_test (nat_lt at.0 (row_count t)) (nat_lt at.1 (col_count t)) refl refl
    where
      by_test : (a b : Bool) → nat_lt at.0 (row_count t) ≡ a → nat_lt at.1 (col_count t) ≡ b → cond (a && b) (cells_by (row_count t + col_count t) (λ k. cell_ahead t (box_of way) at (k + 1))) [] ≡ []
      by_test true true ea eb = absurd (outside (ltb-true _ _ ea, ltb-true _ _ eb))
      by_test true false ea eb = refl
      by_test false b ea eb = refl

  -- they are the ray, and an iterator over them gives it
  pub cells_are_ray : (InRange t at.0 at.1 → (k : ℕ) → left < k → Reaches (row_count t, col_count t) (box_of way) at k → ⊥) → (InRange t at.0 at.1 → left ≤ row_count t + col_count t) → ((InRange t at.0 at.1 → ⊥) → left ≡ 0) → cells ≡ ray t way at
  cells_are_ray beyond few none =
      ⊎_elim (λ (row : at.0 < row_count t).
      ⊎_elim (λ (col : at.1 < col_count t). within_ray (row, col) (beyond (row, col)) (few (row, col)))
      (λ (past : col_count t ≤ at.1). outside_ray (λ inside. omega (arith, inside.1)))
      (cases_lt at.1 (col_count t)))
      (λ (past : row_count t ≤ at.0). outside_ray (λ inside. omega (arith, inside.0)))
      (cases_lt at.0 (row_count t))
    where
      outside_ray : (InRange t at.0 at.1 → ⊥) → cells ≡ ray t way at
      outside_ray outside =
          nil_from_length cells (length-cells_ahead t h (box_of way) at left steps ∙ none outside)
          ∙ sym (no_ray outside)

  pub GivesRay-cells : cells ≡ ray t way at → GivesRay t way at cells
  GivesRay-cells is = (is, gives_ahead t h (box_of way) at left steps cells refl, cells_in_order T, positions_in_order T)

  pub IsRay-cells : (0 < left → InRange t at.0 at.1) → (InRange t at.0 at.1 → (k : ℕ) → left < k → Reaches (row_count t, col_count t) (box_of way) at k → ⊥) → IsRay t way at cells
  IsRay-cells some beyond = record {
    ahead = λ k x e. let w = cell_ahead_of t (box_of way) at (k + 1) x (item_of t h (box_of way) at left steps k x e).1 in (w.0, w.1);
    there = there_of t h (box_of way) at left steps;
    all = λ k to inside ahead within.
        ⊎_elim (λ (past : left < k + 1).
        absurd (beyond inside (k + 1) past (record { above = omega (arith, ahead.0); below = omega (arith, ahead.0, within.0); before = omega (arith, ahead.1); after = omega (arith, ahead.1, within.1) })))
        (λ (le : k + 1 ≤ left). omega (arith, le, length-cells_ahead t h (box_of way) at left steps))
        (cases_lt left (k + 1));
    none = λ lt. some (omega (arith, length-cells_ahead t h (box_of way) at left steps));
  }

-- the number of steps to the edge, by a size that is given as a pair
module _ (size step at : ℕ × ℕ) (m n : ℕ) (rows : size.0 ≡ m) (cols : size.1 ≡ n) where
  reaches_size : (k : ℕ) → Reaches size step at k → Reaches (m, n) step at k
  reaches_size k r = record { above = r.above; below = omega (arith, r.below); before = r.before; after = omega (arith, r.after) }

  size_reaches : (k : ℕ) → Reaches (m, n) step at k → Reaches size step at k
  size_reaches k r = record { above = r.above; below = omega (arith, r.below); before = r.before; after = omega (arith, r.after) }

  pub HasSteps-size : (count : ℕ) → HasSteps size step at count → HasSteps (m, n) step at count
  HasSteps-size count h = record { each = λ k some le. reaches_size k (h.each k some le) }

  pub beyond_size : (count : ℕ) → ((at.0 < size.0) × (at.1 < size.1) → (k : ℕ) → count < k → Reaches size step at k → ⊥) → (at.0 < m) × (at.1 < n) → (k : ℕ) → count < k → Reaches (m, n) step at k → ⊥
  beyond_size count h inside k past r = h (omega (arith, inside.0), omega (arith, inside.1)) k past (size_reaches k r)
