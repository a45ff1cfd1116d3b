-- Edits that take nothing.
use Rattle.std.proofs.Common.{◌≡◌, ℕ, ◌+◌, ◌<◌, ◌≤◌, suc, List, ◌++◌, length, map, filter, take, drop, ◌∙◌, ap, arith, remove, take_all, append-nil, map-id}
use Rattle.grid.proofs.Common.{drop_all, row, row_count, col_count, IsTable, without_cols, has_cells}
use Rattle.grid.proofs.ColEditLemmas.{filter_all, map_same}

cut_past : {X : Type 0} (xs : List X) (i n : ℕ) → length xs ≤ i → i ≤ n → take i xs ++ drop n xs ≡ xs
cut_past xs i n le more =
    ap (λ v. v ++ drop n xs) (take_all i xs le) ∙ (ap (λ v. xs ++ v) (drop_all n xs (omega arith)) ∙ append-nil xs)

module _ {T : Type 0} where
  pub remove-past : (i : ℕ) (t : List (List T)) → row_count t ≤ i → remove t i ≡ t
  remove-past i t le = cut_past t i (suc i) le (omega arith)

  -- rows that are cut to themselves
  same_rows : (f : List T → List T) (t : List (List T)) → IsTable t → ((r : ℕ) → r < row_count t → f (row t r) ≡ row t r) → filter has_cells (map f t) ≡ t
  same_rows f t h same = ap (filter has_cells) (map_same f (λ r. r) t same ∙ map-id t) ∙ filter_all t h.nonempty

  pub without_cols-past : (i k : ℕ) (t : List (List T)) → IsTable t → col_count t ≤ i → without_cols i k t ≡ t
  without_cols-past i k t h le =
      same_rows (λ r. take i r ++ drop (i + k) r) t h (λ r lt. cut_past (row t r) i (i + k) (omega (arith, h.even r lt)) (omega arith))
