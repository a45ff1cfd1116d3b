-- What iterators over cells with their positions give.
use Rattle.std.proofs.Common.{◌≡◌, ℕ, ◌^◌, ◌*◌, ◌<◌, List, Some, length, zip, refl, sym, subst, ◌∙◌, ap, arith, slice_get, slice_index_or, unwrap_or, MutBor, MatchOption}
use Rattle.grid.specs.Positions.{GivesIndices}
use Rattle.grid.proofs.Common.{YieldsFirst, YieldsFirstBy, EveryRun, EachRunFrom, AllItems, ItemsMapTo, from_front, at_some, at-is, unwrap_or-slice_get, positions, GridValue, HoldsSize, IsCellAt, GivesCells, GivesOwnedCells, GivesMutCells, indexed_mut_rest, has_place, get-places, length-places, IsSize, IsTable, FitsUsize, IsSize-table, row_count, col_count, InRange, zip_within, get-zip, grid_value}
use Rattle.std.proofs.iter.runs.Lists.{slice_get_within}
use Rattle.grid_base.specs.declared.order.Order.{Order}
use Rattle.grid_base.specs.declared.order.Order.TheVariants.{RowMajor}
use Rattle.grid_base.specs.declared.flat.indexed.IndexedIterMut.{IndexedIterMut}
pub use Rattle.grid_near.proofs.GivenLemmas.{gives, gives_cells_of}
use Rattle.grid.proofs.CellCallLemmas.{item_at, seen_cell, seen_in}

-- of a place within a list, the element doesn't depend on the default
pub same_at : {A : Type 0} (xs : List A) (k : ℕ) (d e : A) → k < length xs → slice_index_or xs k d ≡ slice_index_or xs k e
same_at xs k d e lt =
    let i = item_at xs k lt in
    sym (unwrap_or-slice_get xs k d) ∙ (ap (λ z. unwrap_or z d) i.is ∙ (sym (ap (λ z. unwrap_or z e) i.is) ∙ unwrap_or-slice_get xs k e))

-- the positions of a table, row by row
module _ {T : Type 0} (t : List (List T)) (m n : ℕ) (size : IsSize m n) (rows : row_count t ≡ m) (cols : col_count t ≡ n) where
  index_in : (k : ℕ) (at : ℕ × ℕ) → k < length (positions RowMajor m n) → at ≡ slice_index_or (positions RowMajor m n) k at → InRange t at.0 at.1
  index_in k at lt is =
      let w = has_place RowMajor m n k (omega (arith, length-places RowMajor m n size)) in
      let there : slice_get (positions RowMajor m n) k ≡ Some (w.r, w.c) = ap (slice_get (positions RowMajor m n)) (sym w.is) ∙ get-places RowMajor m n w.r w.c size w.lr w.lc in
      let same : ◌≡◌ {A = ℕ × ℕ} at (w.r, w.c) = is ∙ (sym (unwrap_or-slice_get (positions RowMajor m n) k at) ∙ ap (λ z. unwrap_or z at) there) in
      subst (λ (z : ℕ × ℕ). InRange t z.0 z.1) (sym same) (omega (arith, w.lr, rows), omega (arith, w.lc, cols))

  in_order : EveryRun (YieldsFirst (λ (rest : List (ℕ × ℕ)). rest)) (λ p. ItemsMapTo p (λ at. at) p.from)
  in_order = from_front (YieldsFirst (λ (rest : List (ℕ × ℕ)). rest)) (λ at. at) (λ rest. rest) (λ s t h. ap length h.0) (λ s x t h. h)

  pub indices_in : (s : List (ℕ × ℕ)) → s ≡ positions RowMajor m n → EachRunFrom (YieldsFirst (λ (rest : List (ℕ × ℕ)). rest)) s (λ p. AllItems p (λ at. InRange t at.0 at.1))
  indices_in s is p g from k =
      let maps = in_order p g in
      let cut : p.from ≡ positions RowMajor m n = from ∙ is in
      at_some (p.at k) _ (λ x there.
      let inside : k < p.len = omega (arith, p.long, slice_get_within p.items k x (sym (at-is p k) ∙ there)) in
      let at : x ≡ slice_index_or p.from k x = subst (λ z. MatchOption z (Unit {0}) (λ y. y ≡ slice_index_or p.from k y)) there (maps.8 k) in
      index_in k x (omega (arith, maps.0, ap length cut)) (at ∙ ap (λ l. slice_index_or l k x) cut))

  pub gives_indices : (s : List (ℕ × ℕ)) → s ≡ positions RowMajor m n → m * n < 2 ^ 64 → GivesIndices t s
  gives_indices s is below = (
    is ∙ (ap (λ x. positions RowMajor x n) (sym rows) ∙ ap (positions RowMajor (row_count t)) (sym cols)),
    indices_in s is,
    omega (arith, ap length is, length-places RowMajor m n size, below),
  )

pub gives_indices_of : {T : Type 0} (t : List (List T)) (m n : ℕ) → IsTable t → FitsUsize (row_count t) (col_count t) → m ≡ row_count t → n ≡ col_count t → (s : List (ℕ × ℕ)) → s ≡ positions RowMajor m n → GivesIndices t s
gives_indices_of t m n table fits em en s is =
    gives_indices t (row_count t) (col_count t) (IsSize-table t table) refl refl s
    (is ∙ (ap (λ x. positions RowMajor x n) em ∙ ap (positions RowMajor (row_count t)) en)) fits.cells

module _ {A : Type 0} (o : Order) (m n : ℕ) (cells : List A) (v : GridValue A) (h : HoldsSize m n (length cells)) (e : grid_value o m n cells h ≡ v) where
  -- an item of the list of the cells with their positions
  pub item_is : (k : ℕ) (x : (ℕ × ℕ) × A) → k < length (zip (positions o m n) cells) → x ≡ slice_index_or (zip (positions o m n) cells) k x → IsCellAt v.rows x.0 x.1
  item_is k x lt is =
      let below : k < length cells = omega (arith, zip_within (positions o m n) cells) in
      let w = has_place o m n k (omega (arith, h.cells)) in
      let i = item_at cells k below in
      let there : slice_get (positions o m n) k ≡ Some (w.r, w.c) = ap (slice_get (positions o m n)) (sym w.is) ∙ get-places o m n w.r w.c h.size w.lr w.lc in
      let pair : slice_get (zip (positions o m n) cells) k ≡ Some ((w.r, w.c), i.x) = get-zip (positions o m n) cells k (w.r, w.c) i.x there i.is in
      let same : ◌≡◌ {A = (ℕ × ℕ) × A} x ((w.r, w.c), i.x) =
      is ∙ (sym (unwrap_or-slice_get (zip (positions o m n) cells) k x) ∙ ap (λ z. unwrap_or z x) pair) in
      let whole : IsCellAt v.rows (w.r, w.c) i.x =
      (seen_in o m n cells v h e w.r w.c w.lr w.lc, seen_cell o m n cells v h e w.r w.c w.lr w.lc ∙ (ap (slice_get cells) w.is ∙ i.is)) in
      subst (λ (z : (ℕ × ℕ) × A). IsCellAt v.rows z.0 z.1) (sym same) whole

  pub gives_cells : (s : List ((ℕ × ℕ) × A)) → s ≡ zip (positions o m n) cells → GivesCells v.rows s
  gives_cells s is = gives_cells_of v.rows (zip (positions o m n) cells) item_is s is

  pub gives_owned_cells : (s : List ((ℕ × ℕ) × A)) → s ≡ zip (positions o m n) cells → GivesOwnedCells v.rows s
  gives_owned_cells s is = gives v.rows (zip (positions o m n) cells) item_is (YieldsFirst (λ (rest : List ((ℕ × ℕ) × A)). rest)) (λ item. item) (λ rest. rest)
      (from_front (YieldsFirst (λ (rest : List ((ℕ × ℕ) × A)). rest)) (λ item. item) (λ rest. rest) (λ s t h. ap length h.0) (λ s x t h. h)) s is

  pub gives_mut_cells : (s : IndexedIterMut A) → indexed_mut_rest s ≡ zip (positions o m n) cells → GivesMutCells v.rows s
  gives_mut_cells s is = gives v.rows (zip (positions o m n) cells) item_is (YieldsFirstBy (λ (item : (ℕ × ℕ) × MutBor A). (item.0, item.1.now)) indexed_mut_rest) (λ item. (item.0, item.1.now)) indexed_mut_rest
      (from_front (YieldsFirstBy (λ (item : (ℕ × ℕ) × MutBor A). (item.0, item.1.now)) indexed_mut_rest) (λ item. (item.0, item.1.now)) indexed_mut_rest (λ s t h. ap length h.0) (λ s x t h. h)) s is

  pub indexed_fits : (s : List ((ℕ × ℕ) × A)) → s ≡ zip (positions o m n) cells → length s < 2 ^ 64
  indexed_fits s is = omega (arith, ap length is, zip_within (positions o m n) cells, h.cells, h.below)
