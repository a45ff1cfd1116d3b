-- The cells of a view with their positions.
use Rattle.std.proofs.Common.{◌≡◌, ℕ, zero, suc, inl, inr, get_or, ◌+◌, ◌-◌, ◌*◌, ◌/◌, ◌%◌, ◌^◌, ◌<◌, List, Option, Some, [], ◌∷◌, ◌++◌, length, drop, zip, refl, sym, subst, ◌∙◌, ap, arith, length-append, slice_get, slice_index_or, unwrap_or, MatchOption, Bor}
use Rattle.grid_base.proofs.Common.{YieldsFirstBy, from_front, at_some, at-is, unwrap_or-slice_get, slice_get-get_or, length-zip, row_count, col_count, cell, IsTable, IsSize, concat_rows, positions, StandsAt, IsCellAt, GivesCells}
use Rattle.std.proofs.iter.runs.Lists.{slice_get_within}
use Rattle.grid_base.specs.declared.order.Order.TheVariants.{RowMajor}
use Rattle.grid_base.proofs.TableLemmas.{IsSize-table}
use Rattle.grid_base.proofs.StorageLemmas.{has_place, length-storage, get-storage}
use Rattle.grid_base.proofs.PlaceLemmas.{get-places, length-left, one_left, place_and_rest, get_ahead}
use Rattle.grid_base.proofs.PlacedCellLemmas.{get-zip, zip_last, zip_within}
use Rattle.grid_view.specs.Cells.{ArePlaced, positions_from}

-- the cells that are left, and the positions from the next on
module _ {T : Type 0} (m n r c : ℕ) (old : List T) (h : ArePlaced m n r c (length old)) where
  left : length (positions_from m n r c) ≡ m * n - (r * n + c)
  left = length-left RowMajor m n r c h.stands

  pub length-placed : length (zip (positions_from m n r c) old) ≡ length old
  length-placed = omega (arith, length-zip (positions_from m n r c) old, left, h.within)

  -- a step from the front
  pub placed_next : (x : T) (new : List T) (u v : ℕ) → old ≡ x ∷ new → u * n + v ≡ r * n + c + 1 → zip (positions_from m n r c) old ≡ ((r, c), x) ∷ zip (positions_from m n u v) new
  placed_next x new u v e after =
      let here = one_left RowMajor m n r c h.stands (omega (arith, left, h.within, ap length e)) in
      ap (zip (positions_from m n r c)) e
      ∙ ap (λ ps. zip ps (x ∷ new)) (place_and_rest RowMajor m n r c (u * n + v) h.stands.size here.0 here.1 after)

  -- a step from the back
  pub placed_last : (x : T) (new : List T) (i : ℕ) → old ≡ new ++ x ∷ [] → i ≡ r * n + c + length new → zip (positions_from m n r c) old ≡ zip (positions_from m n r c) new ++ ((i / n, i % n), x) ∷ []
  placed_last x new i e ei =
      let one : length old ≡ length new + 1 = ap length e ∙ length-append new (x ∷ []) in
      ap (zip (positions_from m n r c)) e
      ∙ zip_last (positions_from m n r c) new (i / n, i % n) x
      (get_ahead RowMajor m n r c (length new) i (m, n) h.stands (omega (arith, left, h.within, one)) refl (omega (arith, left, h.within, one, ei)) (i / n, i % n) refl)

stands_first : (m n : ℕ) → IsSize m n → m * n < 2 ^ 64 → StandsAt RowMajor m n 0 0
stands_first zero n h below = record { below = below; size = h; rows = omega arith; cols = omega arith; next = inr (omega arith) }
stands_first (suc m) n h below =
    record { below = below; size = h; rows = omega arith; cols = omega arith; next = inl (omega arith, h.has_cols (omega arith)) }

pub shorter_back : {X : Type 0} (old new : List X) (x : X) → old ≡ new ++ x ∷ [] → length new < length old
shorter_back old new x e = omega (arith, ap length e, length-append new (x ∷ []))

-- all cells of a table
module _ {T : Type 0} (t : List (List T)) (h : IsTable t) where
  abbrev placed : List ((ℕ × ℕ) × T)
  placed = zip (positions RowMajor (row_count t) (col_count t)) (concat_rows t)

  cell_found : (r c k : ℕ) (y : T) → r < row_count t → c < col_count t → r * col_count t + c ≡ k → slice_get (concat_rows t) k ≡ Some y → cell t r c ≡ Some y
  cell_found r c k y lr lc e found = sym (get-storage RowMajor t r c h lr lc) ∙ (ap (slice_get (concat_rows t)) e ∙ found)

  -- each is a position of the table, and the cell there
  item_is : (k : ℕ) (x : (ℕ × ℕ) × T) → k < length placed → x ≡ slice_index_or placed k x → IsCellAt t x.0 x.1
  item_is k x lt is =
      let m = row_count t in
      let n = col_count t in
      let below : k < length (concat_rows t) = omega (arith, lt, zip_within (positions RowMajor m n) (concat_rows t)) in
      let w = has_place RowMajor m n k (omega (arith, below, length-storage RowMajor t h)) in
      let y = get_or (concat_rows t) k x.1 in
      let found : slice_get (concat_rows t) k ≡ Some y = slice_get-get_or (concat_rows t) k x.1 below in
      let at_place = get-places RowMajor m n w.r w.c (IsSize-table t h) w.lr w.lc in
      let there : slice_get (positions RowMajor m n) k ≡ Some (w.r, w.c) = ap (slice_get (positions RowMajor m n)) (sym w.is) ∙ at_place in
      let pair : slice_get placed k ≡ Some ((w.r, w.c), y) = get-zip (positions RowMajor m n) (concat_rows t) k (w.r, w.c) y there found in
      let same : ◌≡◌ {A = (ℕ × ℕ) × T} x ((w.r, w.c), y) =
      is ∙ (sym (unwrap_or-slice_get placed k x) ∙ ap (λ z. unwrap_or z x) pair) in
      let whole : IsCellAt t (w.r, w.c) y = ((w.lr, w.lc), cell_found w.r w.c k y w.lr w.lc w.is found) in
      subst (λ (z : (ℕ × ℕ) × T). IsCellAt t z.0 z.1) (sym same) whole

  abbrev steps : List ((ℕ × ℕ) × T) → Option ((ℕ × ℕ) × Bor T) → List ((ℕ × ℕ) × T) → Type 0
  steps = YieldsFirstBy (λ item. (item.0, item.1.now)) (λ rest. rest)

  pub gives_cells : (s : List ((ℕ × ℕ) × T)) → s ≡ placed → GivesCells t s
  gives_cells s is p started from k =
      let maps = from_front steps (λ item. (item.0, item.1.now)) (λ rest. rest) (λ s t h. ap length h.0) (λ s x t h. h) p started in
      let cut : p.from ≡ placed = from ∙ is in
      at_some (p.at k) _ (λ x there.
      let inside : k < p.len = omega (arith, p.long, slice_get_within p.items k x (sym (at-is p k) ∙ there)) in
      let at : (x.0, x.1.now) ≡ slice_index_or p.from k (x.0, x.1.now) = subst (λ z. MatchOption z (Unit {0}) (λ y. (y.0, y.1.now) ≡ slice_index_or p.from k (y.0, y.1.now))) there (maps.8 k) in
      item_is k (x.0, x.1.now) (omega (arith, maps.0, ap length cut)) (at ∙ ap (λ l. slice_index_or l k (x.0, x.1.now)) cut))

  pub placed_all : (m n : ℕ) (cells : List T) → m ≡ row_count t → n ≡ col_count t → cells ≡ concat_rows t → zip (positions_from m n 0 0) cells ≡ placed
  placed_all m n cells em en e =
      let start : 0 * n + 0 ≡ 0 = omega arith in
      ap (λ k. zip (drop k (positions RowMajor m n)) cells) start
      ∙ (ap (λ k. zip (positions RowMajor k n) cells) em
      ∙ (ap (λ k. zip (positions RowMajor (row_count t) k) cells) en ∙ ap (zip (positions RowMajor (row_count t) (col_count t))) e))

  pub placed_fits : (s : List ((ℕ × ℕ) × T)) → s ≡ placed → row_count t * col_count t < 2 ^ 64 → length s < 2 ^ 64
  placed_fits s is below =
      omega (arith, ap length is, zip_within (positions RowMajor (row_count t) (col_count t)) (concat_rows t), length-storage RowMajor t h, below)

  pub placed_first : (m n : ℕ) (cells : List T) → m ≡ row_count t → n ≡ col_count t → row_count t * col_count t < 2 ^ 64 → cells ≡ concat_rows t → ArePlaced m n 0 0 (length cells)
  placed_first m n cells em en below e =
      let size : IsSize m n = subst (λ k. IsSize k n) (sym em) (subst (λ k. IsSize (row_count t) k) (sym en) (IsSize-table t h)) in
      let area : m * n ≡ row_count t * col_count t = ap (λ k. k * n) em ∙ ap (λ k. row_count t * k) en in
      record {
        stands = stands_first m n size (omega (arith, area, below));
        within = omega (arith, area, ap length e, length-storage RowMajor t h);
      }
