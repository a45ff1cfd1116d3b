-- The open positions that aren't reached yet, as they are reached.
use Rattle.std.proofs.Common.{◌≡◌, ℕ, ◌+◌, ◌^◌, ◌<◌, ◌⊎◌, Bool, true, false, Option, None, Some, List, Contains, OnOk, refl, sym, ◌∙◌, ap, subst, arith, inl, inr, ⊎_elim}
use Rattle.grid_paths.proofs.Common.{with_cell, IsTable, InRange, cell-with_same, cell-with_other, same_or_other, rows-written, cols-with_cell, AreSteps, IsOpen, IsStep, Reaches, IsMarked, cell_in_range, GridValue, on_ok_weaker, Outcome, VisitsEach}
use Rattle.grid_base.specs.Table.{row_count, col_count, cell}
use Rattle.grid_near.specs.declared.steps.Connectivity.{Connectivity}
use Rattle.grid_paths.specs.declared.search.Search.{Search}
use Rattle.grid_paths.specs.declared.bfs.Bfs.{Bfs}
use Rattle.grid_paths.specs.Bfs.{IsBlank}
use Rattle.grid_paths.proofs.StepLemmas.{Spreads-steps, Spreads-none, Spreads-next, none_at}
use Rattle.grid_paths.proofs.VisitLemmas.{visited_each}
use Rattle.grid_paths.specs.Search.{IsLeft}

module _ (mask : List (List Bool)) (steps : List (List (Option ℕ))) (left : List (List Bool)) (l : IsLeft mask steps left) (steps_table : IsTable steps) (left_table : IsTable left) (b : ℕ × ℕ) (k : ℕ) (is_left : IsOpen left b) where
  pub free_there : cell steps b.0 b.1 ≡ Some None
  free_there = (l.unreached_yet b is_left).1

  inside_steps : InRange steps b.0 b.1
  inside_steps = cell_in_range steps steps_table b.0 b.1 None free_there

  pub inside_left : InRange left b.0 b.1
  inside_left = cell_in_range left left_table b.0 b.1 true is_left

  -- the tables with the position reached
  unreached_yet' : (a : ℕ × ℕ) → IsOpen (with_cell left b.0 b.1 false) a → IsOpen mask a × (cell (with_cell steps b.0 b.1 (Some k)) a.0 a.1 ≡ Some None)
  unreached_yet' a h =
      ⊎_elim (λ same.
      let here : cell (with_cell left b.0 b.1 false) b.0 b.1 ≡ Some true = subst (λ x. IsOpen (with_cell left b.0 b.1 false) x) same h in
      let clash : Some false ≡ Some true = sym (cell-with_same left left_table b.0 b.1 false inside_left.0 inside_left.1) ∙ here in
      absurd (cc))
      (λ other.
      let v = l.unreached_yet a (sym (cell-with_other left b.0 b.1 false a.0 a.1 other) ∙ h) in
      (v.0, cell-with_other steps b.0 b.1 (Some k) a.0 a.1 other ∙ v.1))
      (same_or_other a b)

  all' : (a : ℕ × ℕ) → IsOpen mask a → IsOpen (with_cell left b.0 b.1 false) a ⊎ ((m : ℕ) × IsMarked (with_cell steps b.0 b.1 (Some k)) a m)
  all' a o =
      ⊎_elim (λ same.
      let here : IsMarked (with_cell steps b.0 b.1 (Some k)) b k = cell-with_same steps steps_table b.0 b.1 (Some k) inside_steps.0 inside_steps.1 in
      inr (k, subst (λ x. IsMarked (with_cell steps b.0 b.1 (Some k)) x k) (sym same) here))
      (λ other.
      ⊎_elim (λ h. inl (cell-with_other left b.0 b.1 false a.0 a.1 other ∙ h))
      (λ m. inr (m.0, cell-with_other steps b.0 b.1 (Some k) a.0 a.1 other ∙ m.1))
      (l.all a o))
      (same_or_other a b)

  pub IsLeft-reach : (steps' : List (List (Option ℕ))) → steps' ≡ with_cell steps b.0 b.1 (Some k) → IsLeft mask steps' (with_cell left b.0 b.1 false)
  IsLeft-reach steps' e =
      subst (λ x. IsLeft mask x (with_cell left b.0 b.1 false)) (sym e)
      (record {
        size = record { rows = rows-written left b.0 b.1 false ∙ l.size.rows; cols = cols-with_cell left left_table b.0 b.1 false ∙ l.size.cols };
        unreached_yet = unreached_yet';
        all = all';
      })

-- before anything is reached all open positions are left
pub IsLeft-blank : {A : Type 0} (mask : GridValue Bool) (w : Bfs A) → IsBlank mask w → IsLeft mask.rows w.numbers.rows mask.rows
IsLeft-blank mask w blank =
    record {
      size = record { rows = refl; cols = refl };
      unreached_yet = λ a o.
          let i = cell_in_range mask.rows mask.table a.0 a.1 true o in
          (o, ap (λ x. cell x a.0 a.1) blank.none ∙ none_at (row_count mask.rows) (col_count mask.rows) a.0 a.1 i.0 i.1);
      all = λ a o. inl o;
    }

-- an open position is one that a grid can have, or is reached
pub left_fits : (mask : List (List Bool)) (steps : List (List (Option ℕ))) (left : List (List Bool)) → IsLeft mask steps left → IsTable left → row_count left < 2 ^ 64 → col_count left < 2 ^ 64 → (b : ℕ × ℕ) → IsOpen mask b → ((b.0 + 1 < 2 ^ 64) × (b.1 + 1 < 2 ^ 64)) ⊎ ((m : ℕ) × IsMarked steps b m)
left_fits mask steps left l table rows cols b o =
    ⊎_elim (λ h.
    let i = cell_in_range left table b.0 b.1 true h in
    let lr = i.0 in
    let lc = i.1 in
    inl (omega arith, omega arith))
    (λ m. inr m)
    (l.all b o)

module _ {A : Type 0} (k : ℕ) where
  pub Reaches-each : (near : List (ℕ × ℕ)) (r : Outcome) (s u : Search A) → VisitsEach (λ at r s t. OnOk r (Reaches (λ b. at ≡ b) k s t)) near r s u → OnOk r (Reaches (λ b. Contains near b) k s u)
  Reaches-each =
      visited_each (λ at r s t. OnOk r (Reaches (λ b. at ≡ b) k s t)) (λ near s u. Reaches (λ b. Contains near b) k s u) (λ s mask l. (Spreads-none s.steps, l))
      (λ at later s t u one rest mask l. let v = one mask l in let w = rest mask v.1 in (Spreads-next later v.0 w.0, w.1))

  -- the positions of a list are those that a step leads to
  pub Reaches-around : (connectivity : Connectivity) (at : ℕ × ℕ) (near : List (ℕ × ℕ)) → AreSteps connectivity at near → (r : Outcome) (s u : Search A) → VisitsEach (λ at r s t. OnOk r (Reaches (λ b. at ≡ b) k s t)) near r s u → OnOk r (Reaches (IsStep connectivity at) k s u)
  Reaches-around connectivity at near steps r s u each =
      on_ok_weaker r
      (λ h mask l.
      let v = h mask l in
      (Spreads-steps connectivity at near steps (left_fits mask s.steps.numbers.rows s.left.rows l s.left.table s.left.fits.rows s.left.fits.cols) v.0, v.1))
      (Reaches-each near r s u each)
