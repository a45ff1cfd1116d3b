-- The steps around a cell, one by one.
use Rattle.std.proofs.Common.{◌≡◌, ℕ, zero, suc, ◌+◌, ◌-◌, ◌*◌, ◌/◌, ◌%◌, ◌^◌, ◌<◌, ◌≤◌, inl, inr, Bool, true, false, cond, Option, Some, None, List, [], ◌∷◌, drop, length, refl, ◌&&◌, nat_lt, sym, ◌∙◌, ap, arith, slice_index_or, lit<, IsSome, filter_map, slice_get, option_map, option_and_then, lt-ltb, le-ltb, ltb-true}
use Rattle.grid_near.proofs.Common.{cons_option, drop_all, mod_below, mod-mul-add, add-mod_right, cases_lt, slice_get_read, row_count, col_count, cell, place, table_of, HoldsSize, cell_past_rows, IsSome_within, length_cons, past_cols, place_within, step_count, both, cell_at, neighbors4, neighbors8, wrapped_neighbors4, wrapped_neighbors8, around_of, around_before, around_after, cell_by, by_strides, by_steps, strided_table, HoldsCells, box, beside, around, side, positions, position_of, cells_from, if_within, strides_of, start_of, next_step, IsThere, IsAround, positions_from}
use Rattle.std.proofs.Math.Nat.{mod-add-mod}
use Rattle.grid_base.specs.Table.{IsSize, IsTable}
use Rattle.grid_base.proofs.StorageLemmas.{IsFull-table_of}
use Rattle.grid_base.proofs.TableLemmas.{IsFull, IsTable-tabulate, rows-tabulate, cols-tabulate, cell-tabulate, tabulate-same}
use Rattle.grid_base.specs.declared.order.Order.{Order}
use Rattle.grid_base.specs.declared.order.Order.TheVariants.{RowMajor, ColumnMajor}
use Rattle.grid_near.specs.declared.steps.Connectivity.{Connectivity}
use Rattle.grid_near.specs.declared.steps.Connectivity.TheVariants.{Four, Eight}
use Rattle.grid_near.specs.declared.board.Edges.{Edges}
use Rattle.grid_near.specs.declared.board.Edges.TheVariants.{Open, Joined}

-- the position of a step is the first of those that are left
pub positions_from_step : (e : Edges) (size : ℕ × ℕ) (connectivity : Connectivity) (at : ℕ × ℕ) (k : ℕ) → k < step_count connectivity → drop k (positions e size connectivity at) ≡ position_of e size connectivity at k ∷ drop (k + 1) (positions e size connectivity at)
positions_from_step e size Four at zero lt = refl
positions_from_step e size Four at (suc zero) lt = refl
positions_from_step e size Four at (suc (suc zero)) lt = refl
positions_from_step e size Four at (suc (suc (suc zero))) lt = refl
positions_from_step e size Four at (suc (suc (suc (suc k)))) lt = absurd (omega arith)
positions_from_step e size Eight at zero lt = refl
positions_from_step e size Eight at (suc zero) lt = refl
positions_from_step e size Eight at (suc (suc zero)) lt = refl
positions_from_step e size Eight at (suc (suc (suc zero))) lt = refl
positions_from_step e size Eight at (suc (suc (suc (suc zero)))) lt = refl
positions_from_step e size Eight at (suc (suc (suc (suc (suc zero))))) lt = refl
positions_from_step e size Eight at (suc (suc (suc (suc (suc (suc zero)))))) lt = refl
positions_from_step e size Eight at (suc (suc (suc (suc (suc (suc (suc zero))))))) lt = refl
positions_from_step e size Eight at (suc (suc (suc (suc (suc (suc (suc (suc k)))))))) lt = absurd (omega arith)

-- no positions are left
pub none_left : (e : Edges) (size : ℕ × ℕ) (connectivity : Connectivity) (at : ℕ × ℕ) (k : ℕ) → step_count connectivity ≤ k → drop k (positions e size connectivity at) ≡ []
none_left e size Four at k le = drop_all k _ le
none_left e size Eight at k le = drop_all k _ le

module _ {T : Type 0} (cells : List T) (size : ℕ × ℕ) (place_of : ℕ → ℕ → ℕ) where
  abbrev f : ℕ → ℕ → Option T
  f = cell_by cells size place_of

  -- the cell of a position that is in the grid
  pub cell_here : (r c : ℕ) (x : T) → r < size.0 → c < size.1 → slice_get cells (place_of r c) ≡ Some x → cell_at f (Some r, Some c) ≡ Some ((r, c), x)
  cell_here r c x lr lc read =
      ap (λ b. option_map {U = (ℕ × ℕ) × T} (λ x. ((r, c), x)) (cond (b && nat_lt c size.1) (slice_get cells (place_of r c)) None)) (lt-ltb _ _ lr)
      ∙ (ap (λ b. option_map {U = (ℕ × ℕ) × T} (λ x. ((r, c), x)) (cond b (slice_get cells (place_of r c)) None)) (lt-ltb _ _ lc)
      ∙ ap (option_map {U = (ℕ × ℕ) × T} (λ x. ((r, c), x))) read)

module _ {T : Type 0} (f : ℕ → ℕ → Option T) (e : Edges) (size : ℕ × ℕ) (connectivity : Connectivity) (at : ℕ × ℕ) where
  pub cells_left : (k : ℕ) → k < step_count connectivity → cells_from f e size connectivity at k ≡ cons_option (cell_at f (position_of e size connectivity at k)) (cells_from f e size connectivity at (k + 1))
  cells_left k lt = ap (filter_map (cell_at f)) (positions_from_step e size connectivity at k lt)

  first_cell : (k : ℕ) (x : (ℕ × ℕ) × T) → k < step_count connectivity → cell_at f (position_of e size connectivity at k) ≡ Some x → cells_from f e size connectivity at k ≡ x ∷ cells_from f e size connectivity at (k + 1)
  first_cell k x lt is = cells_left k lt ∙ ap (λ o. cons_option o (cells_from f e size connectivity at (k + 1))) is

  pub no_cells : (k : ℕ) → step_count connectivity ≤ k → cells_from f e size connectivity at k ≡ []
  no_cells k le = ap (filter_map (cell_at f)) (none_left e size connectivity at k le)

-- the cell of a step
pub step_item : {T : Type 0} (cells : List T) (size : ℕ × ℕ) (place_of : ℕ → ℕ → ℕ) (e : Edges) (connectivity : Connectivity) (at : ℕ × ℕ) (k r c : ℕ) (x : T) → k < step_count connectivity → side e size.0 at.0 (box connectivity k / 3) ≡ Some r → side e size.1 at.1 (box connectivity k % 3) ≡ Some c → r < size.0 → c < size.1 → slice_get cells (place_of r c) ≡ Some x → cells_from (cell_by cells size place_of) e size connectivity at k ≡ ((r, c), x) ∷ cells_from (cell_by cells size place_of) e size connectivity at (k + 1)
step_item cells size place_of e connectivity at k r c x lt er ec lr lc read =
    let f = cell_by cells size place_of in
    first_cell f e size connectivity at k ((r, c), x) lt
    (ap (λ (o : Option ℕ). cell_at f (o, side e size.1 at.1 (box connectivity k % 3))) er
    ∙ (ap (λ (o : Option ℕ). cell_at f (Some r, o)) ec ∙ cell_here cells size place_of r c x lr lc read))

-- steps whose positions aren't in the grid
pub position_skipped : (size : ℕ × ℕ) (connectivity : Connectivity) (at : ℕ × ℕ) (k : ℕ) → k < step_count connectivity → if_within size (both (position_of Open size connectivity at k)) ≡ None → positions_from size connectivity at k ≡ positions_from size connectivity at (k + 1)
position_skipped size connectivity at k lt e =
    ap (filter_map (λ p. if_within size (both p))) (positions_from_step Open size connectivity at k lt) ∙ ap (λ o. cons_option o (positions_from size connectivity at (k + 1))) e

module _ {T : Type 0} (cells : List T) (size : ℕ × ℕ) (place_of : ℕ → ℕ → ℕ) where
  abbrev position_cell : ℕ × ℕ → Option ((ℕ × ℕ) × T)
  position_cell q = option_map (λ x. (q, x)) (slice_get cells (place_of q.0 q.1))

  step_split : (q : ℕ × ℕ) (b : Bool) (xs : List ((ℕ × ℕ) × T)) (qs : List (ℕ × ℕ)) → xs ≡ filter_map position_cell qs → cons_option (option_map {U = (ℕ × ℕ) × T} (λ x. (q, x)) (cond b (slice_get cells (place_of q.0 q.1)) None)) xs ≡ filter_map position_cell (cons_option (cond b (Some q) None) qs)
  step_split q true xs qs same = ap (cons_option (position_cell q)) same
  step_split q false xs qs same = same

  step_position : (o : Option (ℕ × ℕ)) (xs : List ((ℕ × ℕ) × T)) (qs : List (ℕ × ℕ)) → xs ≡ filter_map position_cell qs → cons_option (option_and_then {U = (ℕ × ℕ) × T} (λ q. option_map (λ x. (q, x)) (cell_by cells size place_of q.0 q.1)) o) xs ≡ filter_map position_cell (cons_option (if_within size o) qs)
  step_position None xs qs same = same
  step_position (Some q) xs qs same = step_split q (nat_lt q.0 size.0 && nat_lt q.1 size.1) xs qs same

  cells_of_positions : (ps : List (Option ℕ × Option ℕ)) → filter_map (cell_at (cell_by cells size place_of)) ps ≡ filter_map position_cell (filter_map (λ p. if_within size (both p)) ps)
  cells_of_positions [] = refl
  cells_of_positions (p ∷ ps) = step_position (both p) _ _ (cells_of_positions ps)

  pub cells_skipped : (connectivity : Connectivity) (at : ℕ × ℕ) (k l : ℕ) → positions_from size connectivity at k ≡ positions_from size connectivity at l → cells_from (cell_by cells size place_of) Open size connectivity at k ≡ cells_from (cell_by cells size place_of) Open size connectivity at l
  cells_skipped connectivity at k l e =
      cells_of_positions (drop k (positions Open size connectivity at)) ∙ (ap (filter_map position_cell) e ∙ sym (cells_of_positions (drop l (positions Open size connectivity at))))

-- one cell for each position
pub mapped_there : {X Y : Type 0} (f : X → Y) (o : Option X) → IsSome o → IsSome (option_map f o)
mapped_there f None e = absurd (cc e)
mapped_there f (Some x) e = refl

and_left : (a b : Bool) → a && b ≡ true → a ≡ true
and_left true b e = refl
and_left false b e = e

and_right : (a b : Bool) → a && b ≡ true → b ≡ true
and_right true b e = e
and_right false b e = absurd (cc e)

module _ {T : Type 0} (cells : List T) (size : ℕ × ℕ) (place_of : ℕ → ℕ → ℕ) (h : HoldsCells cells size place_of) where
  length_split : (q : ℕ × ℕ) (b : Bool) → (b ≡ true → IsSome (slice_get cells (place_of q.0 q.1))) → (xs : List ((ℕ × ℕ) × T)) (qs : List (ℕ × ℕ)) → length xs ≡ length qs → length (cons_option (option_map {U = (ℕ × ℕ) × T} (λ x. (q, x)) (cond b (slice_get cells (place_of q.0 q.1)) None)) xs) ≡ length (cons_option (cond b (Some q) None) qs)
  length_split q true some xs qs same = length_cons _ xs (mapped_there (λ x. (q, x)) _ (some refl)) ∙ ap suc same
  length_split q false some xs qs same = same

  read_within : (q : ℕ × ℕ) → nat_lt q.0 size.0 && nat_lt q.1 size.1 ≡ true → IsSome (slice_get cells (place_of q.0 q.1))
  read_within q e =
      IsSome_within cells _ (h q.0 q.1 (ltb-true _ _ (and_left (nat_lt q.0 size.0) (nat_lt q.1 size.1) e)) (ltb-true _ _ (and_right (nat_lt q.0 size.0) (nat_lt q.1 size.1) e)))

  length_step : (o : Option (ℕ × ℕ)) (xs : List ((ℕ × ℕ) × T)) (qs : List (ℕ × ℕ)) → length xs ≡ length qs → length (cons_option (option_and_then {U = (ℕ × ℕ) × T} (λ q. option_map (λ x. (q, x)) (cell_by cells size place_of q.0 q.1)) o) xs) ≡ length (cons_option (if_within size o) qs)
  length_step None xs qs same = same
  length_step (Some q) xs qs same = length_split q (nat_lt q.0 size.0 && nat_lt q.1 size.1) (read_within q) xs qs same

  length_cells : (ps : List (Option ℕ × Option ℕ)) → length (filter_map (cell_at (cell_by cells size place_of)) ps) ≡ length (filter_map (λ p. if_within size (both p)) ps)
  length_cells [] = refl
  length_cells (p ∷ ps) = length_step (both p) _ _ (length_cells ps)

  pub open_left : (e : Edges) → e ≡ Open → (connectivity : Connectivity) (at : ℕ × ℕ) (inner : Bool) (passed tried : ℕ) → length (cells_from (cell_by cells size place_of) e size connectivity at (next_step e inner passed tried)) ≡ length (positions_from size connectivity at (cond inner passed tried))
  open_left Open is connectivity at inner passed tried = length_cells (drop (cond inner passed tried) (positions Open size connectivity at))
  open_left Joined is connectivity at inner passed tried = absurd (cc is)

  pub strided_there : (r c : ℕ) → r < size.0 → c < size.1 → IsSome (cell_by cells size place_of r c)
  strided_there r c lr lc = there (nat_lt r size.0) (nat_lt c size.1) (lt-ltb _ _ lr) (lt-ltb _ _ lc)
    where
      there : (a b : Bool) → a ≡ true → b ≡ true → IsSome (cond (a && b) (slice_get cells (place_of r c)) None)
      there true true ea eb = IsSome_within cells _ (h r c lr lc)
      there true false ea eb = absurd (cc eb)
      there false b ea eb = absurd (cc ea)

beside_there : (k i : ℕ) → 0 < k + i → i < 3 → beside k i ≡ Some (k + i - 1)
beside_there zero zero lk li = absurd (omega arith)
beside_there (suc k) zero lk li = ap Some (omega arith)
beside_there k (suc zero) lk li = ap Some (omega arith)
beside_there k (suc (suc zero)) lk li = ap Some (omega arith)
beside_there k (suc (suc (suc i))) lk li = absurd (omega arith)

beside_none : (k i : ℕ) → k + i ≤ 0 → beside k i ≡ None
beside_none zero zero le = refl
beside_none (suc k) i le = absurd (omega arith)
beside_none k (suc i) le = absurd (omega arith)

module _ (size at : ℕ × ℕ) (i j : ℕ) (li : i < 3) (lj : j < 3) where
  abbrev position : ℕ × ℕ
  position = (at.0 + i - 1, at.1 + j - 1)

  position_is : 0 < at.0 + i → 0 < at.1 + j → if_within size (both (beside at.0 i, beside at.1 j)) ≡ cond (nat_lt (at.0 + i - 1) size.0 && nat_lt (at.1 + j - 1) size.1) (Some position) None
  position_is lr lc =
      ap (λ (o : Option ℕ). if_within size (both (o, beside at.1 j))) (beside_there at.0 i lr li)
      ∙ ap (λ (o : Option ℕ). if_within size (both (Some (at.0 + i - 1), o))) (beside_there at.1 j lc lj)

  pub position_there : IsThere size at i j → Some position ≡ if_within size (both (beside at.0 i, beside at.1 j))
  position_there h =
      sym (position_is h.above h.before
      ∙ (ap (λ b. cond (b && nat_lt (at.1 + j - 1) size.1) (Some position) None) (lt-ltb _ _ (omega (arith, h.above, h.below)))
      ∙ ap (λ b. cond b (Some position) None) (lt-ltb _ _ (omega (arith, h.before, h.after)))))

  past_col : (b : Bool) → size.1 ≤ at.1 + j - 1 → cond (b && nat_lt (at.1 + j - 1) size.1) (Some position) None ≡ None
  past_col true le = ap (λ b. cond b (Some position) None) (le-ltb _ _ le)
  past_col false le = refl

  pub position_missing : (IsThere size at i j → ⊥) → if_within size (both (beside at.0 i, beside at.1 j)) ≡ None
  position_missing none = elim (cases_lt 0 (at.0 + i)) [
    | inl lr ↦ elim (cases_lt 0 (at.1 + j)) [
      | inl lc ↦ elim (cases_lt (at.0 + i - 1) size.0) [
        | inl wr ↦ elim (cases_lt (at.1 + j - 1) size.1) [
          | inl wc ↦ absurd (none (record { above = lr; below = omega arith; before = lc; after = omega arith }))
          | inr gc ↦ position_is lr lc ∙ past_col (nat_lt (at.0 + i - 1) size.0) gc
        ]
        | inr gr ↦ position_is lr lc ∙ ap (λ b. cond (b && nat_lt (at.1 + j - 1) size.1) (Some position) None) (le-ltb _ _ gr)
      ]
      | inr gc ↦
          ap (λ (o : Option ℕ). if_within size (both (o, beside at.1 j))) (beside_there at.0 i lr li)
          ∙ ap (λ (o : Option ℕ). if_within size (both (Some (at.0 + i - 1), o))) (beside_none at.1 j gc)
    ]
    | inr gr ↦ ap (λ (o : Option ℕ). if_within size (both (o, beside at.1 j))) (beside_none at.0 i gr)
  ]

-- what an iterator starts from
module _ {T : Type 0} (t : List (List T)) where
  joined_start : (b : Bool) (size : ℕ × ℕ) (connectivity : Connectivity) (at : ℕ × ℕ) → cells_from (cell t) Joined size connectivity at (cond b 0 (step_count connectivity)) ≡ cond b (cells_from (cell t) Joined size connectivity at 0) []
  joined_start true size connectivity at = refl
  joined_start false size connectivity at = no_cells (cell t) Joined size connectivity at (step_count connectivity) (omega arith)

  around_start : (e : Edges) (connectivity : Connectivity) (at : ℕ × ℕ) → let size : ℕ × ℕ = (row_count t, col_count t) in cells_from (cell t) e size connectivity at (start_of e size connectivity at) ≡ around_of connectivity e t at.0 at.1
  unfolding neighbors4 neighbors8 wrapped_neighbors4 wrapped_neighbors8
  around_start Open Four at = refl
  around_start Open Eight at = refl
  around_start Joined Four at = joined_start (nat_lt at.0 (row_count t) && nat_lt at.1 (col_count t)) (row_count t, col_count t) Four at
  around_start Joined Eight at = joined_start (nat_lt at.0 (row_count t) && nat_lt at.1 (col_count t)) (row_count t, col_count t) Eight at

-- a number below another
pub below_mod : (n k : ℕ) → k < n → k % n ≡ k
below_mod n k lt = let same : k ≡ 0 * n + k = omega arith in ap (λ x. x % n) same ∙ mod-mul-add 0 n k lt

-- what an iterator starts from, by the table that its cells are
module _ {T : Type 0} (t : List (List T)) (h : IsTable t) (cells : List T) (size : ℕ × ℕ) (place_of : ℕ → ℕ → ℕ) (rows : size.0 ≡ row_count t) (cols : size.1 ≡ col_count t) (is : (r c : ℕ) → r < size.0 → c < size.1 → slice_get cells (place_of r c) ≡ cell t r c) where
  abbrev read : ℕ → ℕ → Option T
  read r c = slice_get cells (place_of r c)

  past : (a b : Bool) (x : Option T) → b ≡ false → cond (a && b) x None ≡ None
  past true b x e = ap (λ b. cond b x None) e
  past false b x e = refl

  shown : (r c : ℕ) → cell_by cells size place_of r c ≡ cell t r c
  shown r c = elim (cases_lt r size.0) [
    | inl lr ↦ elim (cases_lt c size.1) [
      | inl lc ↦
          ap (λ b. cond (b && nat_lt c size.1) (read r c) None) (lt-ltb _ _ lr)
          ∙ (ap (λ b. cond b (read r c) None) (lt-ltb _ _ lc) ∙ is r c lr lc)
      | inr gc ↦ past (nat_lt r size.0) (nat_lt c size.1) (read r c) (le-ltb _ _ gc) ∙ sym (past_cols t h r c (omega (arith, gc, cols)))
    ]
    | inr gr ↦ ap (λ b. cond (b && nat_lt c size.1) (read r c) None) (le-ltb _ _ gr) ∙ sym (cell_past_rows t r c (omega (arith, gr, rows)))
  ]

  whole_size : size ≡ (row_count t, col_count t)
  whole_size = λ i. (rows i, cols i)

  pub start_shown : (e : Edges) (connectivity : Connectivity) (at : ℕ × ℕ) (k : ℕ) → k ≡ start_of e size connectivity at → cells_from (cell_by cells size place_of) e size connectivity at k ≡ around_of connectivity e t at.0 at.1
  start_shown e connectivity at k first =
      ap (cells_from (cell_by cells size place_of) e size connectivity at) first
      ∙ (ap (λ f. cells_from f e size connectivity at (start_of e size connectivity at)) (λ i r c. shown r c i)
      ∙ (ap (λ s. cells_from (cell t) e s connectivity at (start_of e s connectivity at)) whole_size ∙ around_start t e connectivity at))

-- a grid's cells, by their strides
pub at_strides : (o : Order) (m n r c : ℕ) → by_strides (strides_of o (m, n)) r c ≡ place o m n r c
at_strides RowMajor m n r c = omega arith
at_strides ColumnMajor m n r c = omega arith

-- a grid's cells, by steps from the first
module _ {T : Type 0} (o : Order) (m n : ℕ) (cells : List T) (h : HoldsSize m n (length cells)) where
  pub at_steps : (r c : ℕ) → r < m → c < n → by_steps 0 (strides_of o (m, n)) r c ≡ place o m n r c
  at_steps r c lr lc =
      let same : 0 + r * (strides_of o (m, n)).0 + c * (strides_of o (m, n)).1 ≡ place o m n r c = omega (arith, at_strides o m n r c) in
      ap (λ x. x % 2 ^ 64) same ∙ below_mod (2 ^ 64) (place o m n r c) (omega (arith, place_within o m n r c lr lc, h.below))

  pub stored_table : (strides : ℕ × ℕ) → strides ≡ strides_of o (m, n) → strided_table cells (m, n) 0 strides ≡ table_of o m n cells
  stored_table strides e =
      ap (strided_table cells (m, n) 0) e
      ∙ tabulate-same m n _ _ (λ r c lr lc. ap (slice_get cells) (at_steps r c lr lc)) (IsFull-table_of o m n cells h.cells)

-- the table of cells by steps
module _ {T : Type 0} (cells : List T) (size : ℕ × ℕ) (start : ℕ) (strides : ℕ × ℕ) (s : IsSize size.0 size.1) (h : HoldsCells cells size (by_steps start strides)) where
  abbrev read_step : ℕ → ℕ → Option T
  read_step r c = slice_get cells (by_steps start strides r c)

  full : IsFull size.0 size.1 read_step
  full = record { full = λ r c lr lc. IsSome_within cells (by_steps start strides r c) (h r c lr lc) }

  pub steps_shown : (e : Edges) (connectivity : Connectivity) (at : ℕ × ℕ) (k : ℕ) → k ≡ start_of e size connectivity at → cells_from (cell_by cells size (by_steps start strides)) e size connectivity at k ≡ around_of connectivity e (strided_table cells size start strides) at.0 at.1
  steps_shown =
      start_shown (strided_table cells size start strides) (IsTable-tabulate size.0 size.1 read_step s full) cells size (by_steps start strides) (sym (rows-tabulate size.0 size.1 read_step)) (sym (cols-tabulate size.0 size.1 read_step s full))
      (λ r c lr lc. sym (cell-tabulate size.0 size.1 read_step r c full lr lc))

-- the step that an iterator goes on with
pub start_step : (e : Edges) (inner : Bool) (k : ℕ) → next_step e inner k k ≡ k
start_step Open true k = refl
start_step Open false k = refl
start_step Joined inner k = refl

pub inner_step : (e : Edges) (inner : Bool) (passed tried : ℕ) → inner ≡ true → next_step e inner passed tried ≡ passed
inner_step Open inner passed tried is = ap (λ b. cond b passed tried) is
inner_step Joined inner passed tried is = refl

-- away from the edges
before_inner : (n k : ℕ) → 0 < k → k < n → around_before n k ≡ k - 1
before_inner n zero lk ln = absurd (omega arith)
before_inner n (suc k) lk ln =
    let same : suc k + n - 1 ≡ k + n = omega arith in
    let low : k ≡ suc k - 1 = omega arith in
    ap (λ x. x % n) same ∙ (add-mod_right k n ∙ (below_mod n k (omega arith) ∙ low))

after_inner : (n k : ℕ) → k + 1 < n → around_after n k ≡ k + 1
after_inner n k ln = below_mod n (k + 1) ln

around_inner : (n k i : ℕ) → 0 < k → k + 1 < n → i < 3 → around n k i ≡ k + i - 1
around_inner n k zero lk ln li = before_inner n k lk (omega arith) ∙ omega arith
around_inner n k (suc zero) lk ln li = omega arith
around_inner n k (suc (suc zero)) lk ln li = after_inner n k ln ∙ omega arith
around_inner n k (suc (suc (suc i))) lk ln li = absurd (omega arith)

side_inner : (e : Edges) (n k i : ℕ) → 0 < k → k + 1 < n → i < 3 → side e n k i ≡ Some (k + i - 1)
side_inner Open n k i lk ln li = beside_there k i (omega arith) li
side_inner Joined n k i lk ln li = ap Some (around_inner n k i lk ln li)

pub box_row : (connectivity : Connectivity) (k : ℕ) → k < step_count connectivity → box connectivity k / 3 < 3
box_row Four k lt = omega arith
box_row Eight k lt = omega arith

pub box_col : (connectivity : Connectivity) (k : ℕ) → box connectivity k % 3 < 3
box_col connectivity k = mod_below (box connectivity k) 3 (lit< tt)

-- how many positions are left
pub there_at : (size at : ℕ × ℕ) (i j k l : ℕ) → i ≡ k → j ≡ l → IsThere size at i j → IsThere size at k l
there_at size at i j k l ei ej t = record {
  above = omega (arith, t.above, ei);
  below = omega (arith, t.below, ei);
  before = omega (arith, t.before, ej);
  after = omega (arith, t.after, ej);
}

pub position_counted : (size at : ℕ × ℕ) (connectivity : Connectivity) (k : ℕ) → k < step_count connectivity → IsThere size at (box connectivity k / 3) (box connectivity k % 3) → length (positions_from size connectivity at k) ≡ suc (length (positions_from size connectivity at (k + 1)))
position_counted size at connectivity k lt t =
    ap (λ ps. length (filter_map (λ p. if_within size (both p)) ps)) (positions_from_step Open size connectivity at k lt)
    ∙ ap (λ o. length (cons_option o (positions_from size connectivity at (k + 1)))) (sym (position_there size at (box connectivity k / 3) (box connectivity k % 3) (box_row connectivity k lt) (box_col connectivity k) t))

pub no_position : (size at : ℕ × ℕ) (connectivity : Connectivity) (k : ℕ) → k < step_count connectivity → (IsThere size at (box connectivity k / 3) (box connectivity k % 3) → ⊥) → positions_from size connectivity at k ≡ positions_from size connectivity at (k + 1)
no_position size at connectivity k lt none =
    position_skipped size connectivity at k lt (position_missing size at (box connectivity k / 3) (box connectivity k % 3) (box_row connectivity k lt) (box_col connectivity k) none)

pub no_positions : (size at : ℕ × ℕ) (connectivity : Connectivity) (k : ℕ) → step_count connectivity ≤ k → length (positions_from size connectivity at k) ≡ 0
no_positions size at connectivity k le = ap (λ ps. length (filter_map (λ p. if_within size (both p)) ps)) (none_left Open size connectivity at k le)

dist : (a b s : ℕ) → (a + b) * s ≡ a * s + b * s
dist a b s = grind arith

moved : (r i s : ℕ) → 0 < r → (r - 1) * s + i * s ≡ (r + i - 1) * s
moved r i s lt = let same : r + i - 1 ≡ r - 1 + i = omega arith in sym (ap (λ k. k * s) same ∙ dist (r - 1) i s)

-- steps from a place that steps lead to
steps_on : (start : ℕ) (strides at : ℕ × ℕ) (i j : ℕ) → 0 < at.0 → 0 < at.1 → by_steps (by_steps start strides (at.0 - 1) (at.1 - 1)) strides i j ≡ by_steps start strides (at.0 + i - 1) (at.1 + j - 1)
steps_on start strides at i j above before =
    let x = start + (at.0 - 1) * strides.0 + (at.1 - 1) * strides.1 in
    let more = i * strides.0 + j * strides.1 in
    let grouped : x % 2 ^ 64 + i * strides.0 + j * strides.1 ≡ x % 2 ^ 64 + more = omega arith in
    let all : x + more ≡ start + (at.0 + i - 1) * strides.0 + (at.1 + j - 1) * strides.1 = omega (arith, moved at.0 i strides.0 above, moved at.1 j strides.1 before) in
    ap (λ y. y % 2 ^ 64) grouped ∙ (mod-add-mod x (2 ^ 64) more ∙ ap (λ y. y % 2 ^ 64) all)

-- the position of a step whose cell is in the grid
module _ {T : Type 0} (cells : List T) (size : ℕ × ℕ) (place_of : ℕ → ℕ → ℕ) (at : ℕ × ℕ) (connectivity : Connectivity) (k i j : ℕ) (lt : k < step_count connectivity) (h : HoldsCells cells size place_of) (t : IsThere size at (box connectivity k / 3) (box connectivity k % 3)) (ei : i ≡ box connectivity k / 3) (ej : j ≡ box connectivity k % 3) where
  there : IsThere size at i j
  there = there_at size at _ _ i j (sym ei) (sym ej) t

  pub position_within : place_of (at.0 + i - 1) (at.1 + j - 1) < length cells
  position_within = h (at.0 + i - 1) (at.1 + j - 1) (omega (arith, there.above, there.below)) (omega (arith, there.before, there.after))

  pub position_item : (x : T) → slice_get cells (place_of (at.0 + i - 1) (at.1 + j - 1)) ≡ Some x → cells_from (cell_by cells size place_of) Open size connectivity at k ≡ ((at.0 + i - 1, at.1 + j - 1), x) ∷ cells_from (cell_by cells size place_of) Open size connectivity at (k + 1)
  position_item x read =
      step_item cells size place_of Open connectivity at k (at.0 + i - 1) (at.1 + j - 1) x lt
      (ap (beside at.0) (sym ei) ∙ beside_there at.0 i there.above (omega (arith, box_row connectivity k lt, ei)))
      (ap (beside at.1) (sym ej) ∙ beside_there at.1 j there.before (omega (arith, box_col connectivity k, ej)))
      (omega (arith, there.above, there.below)) (omega (arith, there.before, there.after)) read

module _ {T : Type 0} (cells : List T) (size : ℕ × ℕ) (start : ℕ) (strides at : ℕ × ℕ) (connectivity : Connectivity) (edges : Edges) (first : ℕ) (inner : Bool) (passed tried : ℕ) (w : IsAround cells size start strides at connectivity edges first inner passed tried) (e : inner ≡ true) (k : ℕ) (lt : k < step_count connectivity) (i j : ℕ) (ei : i ≡ box connectivity k / 3) (ej : j ≡ box connectivity k % 3) where
  within_row : at.0 + i - 1 < size.0
  within_row = omega (arith, box_row connectivity k lt, (w.inside e).below, (w.inside e).above)

  within_col : at.1 + j - 1 < size.1
  within_col = omega (arith, box_col connectivity k, (w.inside e).after, (w.inside e).before)

  box_place : by_steps first strides i j ≡ by_steps start strides (at.0 + i - 1) (at.1 + j - 1)
  box_place =
      ap (λ f. by_steps f strides i j) (w.first_is e) ∙ steps_on start strides at i j (w.inside e).above (w.inside e).before

  pub box_within : by_steps first strides i j < length cells
  box_within = omega (arith, box_place, w.holds (at.0 + i - 1) (at.1 + j - 1) within_row within_col)

  pub inner_item : (x : T) (p : ℕ) → p ≡ by_steps first strides i j → x ≡ slice_index_or cells p x → cells_from (cell_by cells size (by_steps start strides)) edges size connectivity at k ≡ ((at.0 + i - 1, at.1 + j - 1), x) ∷ cells_from (cell_by cells size (by_steps start strides)) edges size connectivity at (k + 1)
  inner_item x p there read =
      let same : p ≡ by_steps start strides (at.0 + i - 1) (at.1 + j - 1) = there ∙ box_place in
      step_item cells size (by_steps start strides) edges connectivity at k (at.0 + i - 1) (at.1 + j - 1) x lt
      (ap (side edges size.0 at.0) (sym ei) ∙ side_inner edges size.0 at.0 i (w.inside e).above (w.inside e).below (omega (arith, box_row connectivity k lt)))
      (ap (side edges size.1 at.1) (sym ej) ∙ side_inner edges size.1 at.1 j (w.inside e).before (w.inside e).after (omega (arith, box_col connectivity k)))
      within_row within_col (ap (slice_get cells) (sym same) ∙ slice_get_read cells _ _ x refl (omega (arith, there, box_within)) read)
