-- The positions of a table's cells, one after another.
use Rattle.std.proofs.Common.{◌≡◌, ℕ, zero, suc, ◌+◌, ◌*◌, ◌-◌, ◌/◌, ◌%◌, ◌<◌, ◌≤◌, ⊎_elim, Option, Some, List, [], ◌∷◌, length, drop, refl, sym, subst, ◌∙◌, ap, arith, length-drop, slice_get, div-add-mod', mul_comm}
use Rattle.grid_base.proofs.Common.{drop_all, drop_more, slice_get_within, get_or_from_slice_get, div_below, mod_below, row_count, col_count, IsSize, tabulate, storage, place, positions, StandsAt, along}
use Rattle.grid_base.specs.declared.order.Order.{Order}
use Rattle.grid_base.specs.declared.order.Order.TheVariants.{RowMajor, ColumnMajor}
use Rattle.grid_base.proofs.TableLemmas.{rows-tabulate, cols-tabulate, cell-tabulate, IsFull, IsTable-tabulate}
use Rattle.grid_base.proofs.StorageLemmas.{length-storage, get-storage, get-drop, place_within}

abbrev pair_at : ℕ → ℕ → Option (ℕ × ℕ)
pair_at r c = Some (r, c)

-- the table of the pairs of row and column
abbrev pairs : ℕ → ℕ → List (List (ℕ × ℕ))
pairs m n = tabulate m n pair_at

all_there : (m n : ℕ) → IsFull m n pair_at
all_there m n = record { full = λ r c lr lc. refl }

pub length-places : (o : Order) (m n : ℕ) → IsSize m n → length (positions o m n) ≡ m * n
unfolding positions
length-places o m n z =
    let em = rows-tabulate m n pair_at in
    let en = cols-tabulate m n pair_at z (all_there m n) in
    length-storage o (pairs m n) (IsTable-tabulate m n _ z (all_there m n)) ∙ (ap (λ x. x * col_count (pairs m n)) em ∙ ap (λ x. m * x) en)

pub get-places : (o : Order) (m n r c : ℕ) → IsSize m n → r < m → c < n → slice_get (positions o m n) (place o m n r c) ≡ Some (r, c)
unfolding positions
get-places o m n r c z lr lc =
    let t = pairs m n in
    let em : row_count t ≡ m = rows-tabulate m n pair_at in
    let en : col_count t ≡ n = cols-tabulate m n pair_at z (all_there m n) in
    let same : place o (row_count t) (col_count t) r c ≡ place o m n r c =
    ap (λ x. place o x (col_count t) r c) em ∙ ap (λ x. place o m x r c) en in
    ap (slice_get (storage o t)) (sym same)
    ∙ (get-storage o t r c (IsTable-tabulate m n _ z (all_there m n)) (omega arith) (omega arith)
    ∙ cell-tabulate m n pair_at r c (all_there m n) lr lc)

-- what is left from a position on that holds x
drop_from : {X : Type 0} (xs : List X) (k : ℕ) (x : X) → slice_get xs k ≡ Some x → drop k xs ≡ x ∷ drop (k + 1) xs
drop_from xs k x h =
    drop_more xs k x (slice_get_within xs k x h) ∙ ap (λ z. z ∷ drop (k + 1) xs) (get_or_from_slice_get xs k x x h)

-- no position is past the last
pub within-places : (o : Order) (m n r c : ℕ) → StandsAt o m n r c → place o m n r c ≤ m * n
within-places o m n r c h =
    ⊎_elim (λ inside. let lt = place_within o m n r c inside.0 inside.1 in omega arith) (λ last. omega arith) h.next

-- how many are left
pub length-left : (o : Order) (m n r c : ℕ) → StandsAt o m n r c → length (drop (place o m n r c) (positions o m n)) ≡ m * n - place o m n r c
length-left o m n r c h = omega (arith, length-drop (place o m n r c) (positions o m n), length-places o m n h.size)

-- the next position, and those after it
pub place_and_rest : (o : Order) (m n r c k : ℕ) → IsSize m n → r < m → c < n → k ≡ place o m n r c + 1 → drop (place o m n r c) (positions o m n) ≡ (r, c) ∷ drop k (positions o m n)
place_and_rest o m n r c k z lr lc e =
    drop_from (positions o m n) (place o m n r c) (r, c) (get-places o m n r c z lr lc) ∙ ap (λ i. (r, c) ∷ drop i (positions o m n)) (sym e)

-- none at the end
pub none_left : (o : Order) (m n r c : ℕ) → StandsAt o m n r c → ((r < m × c < n) → ⊥) → drop (place o m n r c) (positions o m n) ≡ []
none_left o m n r c h past =
    ⊎_elim (λ inside. absurd (past inside))
    (λ last. drop_all (place o m n r c) (positions o m n) (omega (arith, length-places o m n h.size))) h.next

-- where some are left, the next is in range
pub one_left : (o : Order) (m n r c : ℕ) → StandsAt o m n r c → 0 < length (drop (place o m n r c) (positions o m n)) → (r < m) × (c < n)
one_left o m n r c h lt =
    ⊎_elim (λ inside. inside) (λ last. absurd (omega (arith, length-left o m n r c h))) h.next

get_at : (o : Order) (m n l k i : ℕ) (at : ℕ × ℕ) → IsSize m n → l < (along o m n).0 → k < (along o m n).1 → i ≡ l * (along o m n).1 + k → at ≡ along o l k → slice_get (positions o m n) i ≡ Some at
get_at RowMajor m n l k i at z ll lk e ea =
    ap (slice_get (positions RowMajor m n)) e ∙ (get-places RowMajor m n l k z ll lk ∙ ap Some (sym ea))
get_at ColumnMajor m n l k i at z ll lk e ea =
    ap (slice_get (positions ColumnMajor m n)) e ∙ (get-places ColumnMajor m n k l z lk ll ∙ ap Some (sym ea))

-- the cell in place k of line l along the storage, which starts at cell b
pub get_along : (o : Order) (m n l k b i : ℕ) (size at : ℕ × ℕ) → IsSize m n → l < (along o m n).0 → size ≡ along o m n → k < size.1 → b ≡ l * (along o m n).1 → i ≡ b + k → at ≡ along o l k → slice_get (positions o m n) i ≡ Some at
get_along o m n l k b i size at z ll es lk e ei ea =
    get_at o m n l k i at z ll (subst (λ (p : ℕ × ℕ). k < p.1) es lk) (ei ∙ ap (λ x. x + k) e) ea

-- past the last line all cells are passed
all_along : (o : Order) (m n : ℕ) → (along o m n).0 * (along o m n).1 ≡ m * n
all_along RowMajor m n = refl
all_along ColumnMajor m n = mul_comm n m

pub all_passed : (o : Order) (m n l i : ℕ) (size : ℕ × ℕ) → IsSize m n → size ≡ along o m n → l ≡ size.0 → i ≡ l * (along o m n).1 → length (positions o m n) ≡ i
all_passed o m n l i size z es el e =
    let same : l ≡ (along o m n).0 = el ∙ ap (λ (p : ℕ × ℕ). p.0) es in
    length-places o m n z ∙ (sym (all_along o m n) ∙ (ap (λ x. x * (along o m n).1) (sym same) ∙ sym e))

some_wide : (l w i : ℕ) → i < l * w → 0 < w
some_wide l zero i lt = absurd (omega (arith, lt))
some_wide l (suc w) i lt = omega arith

-- the position that comes after the next k, by the number i of its cell
module _ (o : Order) (m n r c k i : ℕ) (size : ℕ × ℕ) (h : StandsAt o m n r c) (some : k < length (drop (place o m n r c) (positions o m n))) (es : size ≡ along o m n) (ei : i ≡ m * n - (length (drop (place o m n r c) (positions o m n)) - k)) where
  number : place o m n r c + k ≡ i
  number = omega (arith, length-left o m n r c h, within-places o m n r c h)

  among : i < (along o m n).0 * (along o m n).1
  among = omega (arith, number, length-left o m n r c h, all_along o m n)

  wide : 0 < (along o m n).1
  wide = some_wide (along o m n).0 (along o m n).1 i among

  pub ahead_wide : 0 < size.1
  ahead_wide = subst (λ (p : ℕ × ℕ). 0 < p.1) (sym es) wide

  pub get_ahead : (at : ℕ × ℕ) → at ≡ along o (i / size.1) (i % size.1) → slice_get (drop (place o m n r c) (positions o m n)) k ≡ Some at
  get_ahead at ea =
      let w = (along o m n).1 in
      let is : at ≡ along o (i / w) (i % w) = subst (λ (p : ℕ × ℕ). at ≡ along o (i / p.1) (i % p.1)) es ea in
      get-drop (place o m n r c) (positions o m n) (place o m n r c + k) k refl
      ∙ (ap (slice_get (positions o m n)) number
      ∙ get_at o m n (i / w) (i % w) i at h.size (div_below i w (along o m n).0 wide among) (mod_below i w wide) (sym (div-add-mod' i w)) is)
