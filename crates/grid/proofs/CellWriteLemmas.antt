-- A grid of which one cell is written, and put back.
use Rattle.std.proofs.Common.{◌≡◌, ℕ, zero, suc, ◌<◌, Some, List, [], ◌∷◌, length, set, refl, ◌∙◌, ap, swap, slice_get, get_or-set_same}
use Rattle.grid.proofs.Common.{slice_get-get_or, row, row_count, cell, exchanged, with_cell, place, table_of, HoldsSize, GridValue, same_grid_value, view-write, view-swap, grid_value, with_grid_cell}
use Rattle.grid_base.specs.declared.order.Order.{Order}

-- the same at a position that is known by an equation
pub seen_written_cell : {T : Type 0} (o : Order) (m n : ℕ) (cells : List T) (s : GridValue T) (r c : ℕ) (w : T) (p : ℕ) → p ≡ place o m n r c → (h : HoldsSize m n (length cells)) (k : HoldsSize m n (length (set cells p w))) → grid_value o m n cells h ≡ s → r < m → c < n → grid_value o m n (set cells p w) k ≡ with_grid_cell s r c w
seen_written_cell o m n cells s r c w p at h k e lr lc =
    same_grid_value _ _
    (ap (λ x. table_of o m n (set cells x w)) at ∙ (view-write o m n cells h r c lr lc w ∙ ap (λ x. with_cell x.rows r c w) e))
    (ap (λ x. x.order) e)

-- what a swap of two cells' positions makes of the rows
pub rows_swapped : {T : Type 0} (o : Order) (m n : ℕ) (cells : List T) (s : GridValue T) (a b : ℕ × ℕ) (h : HoldsSize m n (length cells)) → grid_value o m n cells h ≡ s → a.0 < m → a.1 < n → b.0 < m → b.1 < n → table_of o m n (swap cells (place o m n a.0 a.1) (place o m n b.0 b.1)) ≡ exchanged s.rows a b
rows_swapped o m n cells s a b h e ra ca rb cb = view-swap o m n cells h a b ra ca rb cb ∙ ap (λ x. exchanged x.rows a b) e

-- a list of which an item was replaced and put back
pub set_back : {X : Type 0} (xs : List X) (i : ℕ) (w x : X) → slice_get xs i ≡ Some x → set (set xs i w) i x ≡ xs
set_back [] i w x h = refl
set_back (y ∷ xs) zero w x h = let e : x ≡ y = cc in ap (λ v. v ∷ xs) e
set_back (y ∷ xs) (suc i) w x h = ap (λ v. y ∷ v) (set_back xs i w x h)

pub with_cell_back : {T : Type 0} (t : List (List T)) (r c : ℕ) (w x : T) → r < row_count t → cell t r c ≡ Some x → with_cell (with_cell t r c w) r c x ≡ t
with_cell_back t r c w x lr h =
    ap (λ v. set (with_cell t r c w) r (set v c x)) (get_or-set_same t r (set (row t r) c w) [] lr)
    ∙ (ap (λ v. set (with_cell t r c w) r v) (set_back (row t r) c w x h)
    ∙ set_back t r (set (row t r) c w) (row t r) (slice_get-get_or t r [] lr))
