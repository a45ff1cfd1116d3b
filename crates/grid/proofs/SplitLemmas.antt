-- Rows that are split off a grid, and cells that are cut into the rows that they had.
use Rattle.std.proofs.Common.{◌≡◌, ◌≢◌, ◌<◌, ◌≤◌, ◌+◌, ◌-◌, ◌*◌, ◌++◌, [], ℕ, List, take, drop, length, length-drop, sym, ◌∙◌, ap, arith, ⊎_elim, inl, subst, take_all, append-nil}
use Rattle.grid.proofs.Common.{drop_all, cases_eq, row_count, col_count, IsTable, storage, CanCut, act, length-storage, same_by_storage, none_by_storage, CanCut-storage, without_rows, without_cols, rows-act}
use Rattle.grid_base.specs.declared.order.Order.{Order}
use Rattle.grid_base.specs.declared.words.Symmetry.TheVariants.{Transpose}
use Rattle.grid.proofs.ColEditLemmas.{without_cols-across}
use Rattle.grid.proofs.EditSizeLemmas.{IsTable-take, cols-take}

pub times_none : (k c : ℕ) → k ≡ 0 → k * c ≡ 0
times_none k c none = ap (λ x. x * c) none ∙ omega arith

-- cells cut into rows of the length that they had are the rows that they were
pub same_cut : {T : Type 0} (o : Order) (t u : List (List T)) (n : ℕ) → IsTable t → IsTable u → storage o u ≡ storage o t → (length (storage o t) ≢ 0 → col_count u ≡ n) → (0 < row_count t → col_count t ≡ n) → u ≡ t
same_cut o t u n ht hu e cut wide =
    ⊎_elim {C = u ≡ t}
    (λ none. none_by_storage o u hu (ap length e ∙ none) ∙ sym (none_by_storage o t ht none))
    (λ some. same_by_storage o u t hu ht (cut some ∙ sym (wide (has_rows some))) e)
    (cases_eq (length (storage o t)) 0)
  where
    has_rows : length (storage o t) ≢ 0 → 0 < row_count t
    has_rows some =
        ⊎_elim {C = 0 < row_count t} (λ none. absurd (some (length-storage o t ht ∙ times_none (row_count t) (col_count t) none))) (λ more. omega arith) (cases_eq (row_count t) 0)

pub can_cut_again : {T : Type 0} (o : Order) (t : List (List T)) (n len : ℕ) → IsTable t → len ≡ length (storage o t) → (0 < row_count t → col_count t ≡ n) → CanCut len n
can_cut_again o t n len h e wide =
    ⊎_elim {C = CanCut len n}
    (λ none. inl (e ∙ (length-storage o t h ∙ times_none (row_count t) (col_count t) none)))
    (λ more. subst (λ x. CanCut x n) (sym e) (subst (CanCut (length (storage o t))) (wide (omega arith)) (CanCut-storage o t h)))
    (cases_eq (row_count t) 0)

-- a split as rows taken out
pub drop_without : {T : Type 0} (at : ℕ) (t : List (List T)) → drop at t ≡ without_rows 0 at t
drop_without at t = let e : at ≡ 0 + at = omega arith in ap (λ x. drop x t) e

pub take_without : {T : Type 0} (at : ℕ) (t : List (List T)) → at ≤ row_count t → take at t ≡ without_rows at (row_count t - at) t
take_without at t le =
    let none : drop (at + (row_count t - at)) t ≡ [] = drop_all (at + (row_count t - at)) t (omega (arith, le)) in
    sym (ap (λ x. take at t ++ x) none ∙ append-nil (take at t))

-- rows split between two transposes are columns
module _ {T : Type 0} (at : ℕ) (t mid : List (List T)) (h : IsTable t) (le : at ≤ col_count t) (transposed : mid ≡ act Transpose t) where
  pub cols_kept : (less new : List (List T)) → new ≡ act Transpose less → less ≡ take at mid → new ≡ without_cols at (col_count t - at) t
  cols_kept less new back taken =
      let rows : row_count (act Transpose t) ≡ col_count t = rows-act Transpose t in
      back
      ∙ (ap (act Transpose)
      (taken ∙ (ap (take at) transposed ∙ (take_without at (act Transpose t) (omega (arith, rows, le)) ∙ ap (λ k. without_rows at (k - at) (act Transpose t)) rows)))
      ∙ sym (without_cols-across at (col_count t - at) t h (omega (arith, le))))

  pub cols_split : (cut new : List (List T)) → new ≡ act Transpose cut → cut ≡ drop at mid → new ≡ without_cols 0 at t
  cols_split cut new back taken =
      back
      ∙ (ap (act Transpose) (taken ∙ (ap (drop at) transposed ∙ drop_without at (act Transpose t)))
      ∙ sym (without_cols-across 0 at t h (omega (arith, le))))

-- the rows from at on
module _ {T : Type 0} (t : List (List T)) (h : IsTable t) (at : ℕ) (le : at ≤ row_count t) where
  pub IsTable-tail : IsTable (drop at t)
  IsTable-tail = subst IsTable (sym (drop_without at t)) (IsTable-take 0 at t h (omega (arith, le)))

  pub cols-tail : 0 < row_count (drop at t) → col_count (drop at t) ≡ col_count t
  cols-tail some = ap col_count (drop_without at t) ∙ cols-take 0 at t h (omega (arith, le)) (omega (arith, some, length-drop at t))

  pub all_taken : take (row_count t - at) (drop at t) ≡ drop at t
  all_taken = take_all (row_count t - at) (drop at t) (omega (arith, length-drop at t))
