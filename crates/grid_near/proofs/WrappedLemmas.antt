-- The steps around a cell on a table whose edges meet.
use Rattle.std.proofs.Common.{◌≡◌, ℕ, zero, suc, ◌+◌, ◌-◌, ◌/◌, ◌%◌, ◌<◌, Bool, true, false, Option, cond, nat_lt, ◌&&◌, length, inl, inr, IsSome, refl, ◌∙◌, ap, arith, lt-ltb, ltb-true}
use Rattle.grid_near.proofs.Common.{mod_below, cases_lt, length_cons, step_count, around, box, cells_from, start_of, next_step}
use Rattle.grid_near.specs.declared.steps.Connectivity.{Connectivity}
use Rattle.grid_near.specs.declared.board.Edges.{Edges}
use Rattle.grid_near.specs.declared.board.Edges.TheVariants.{Open, Joined}
use Rattle.grid_near.proofs.AroundLemmas.{cells_left, no_cells, mapped_there}

-- where a position is in range, and where not, by how many steps are done at the start
module _ (size : ℕ × ℕ) (connectivity : Connectivity) (at : ℕ × ℕ) where
  pub not_done : (e : Edges) → e ≡ Joined → start_of e size connectivity at < step_count connectivity → (at.0 < size.0) × (at.1 < size.1)
  not_done Open e lt = absurd (cc e)
  not_done Joined e lt = cases (nat_lt at.0 size.0) (nat_lt at.1 size.1) refl refl lt
    where
      cases : (a b : Bool) → nat_lt at.0 size.0 ≡ a → nat_lt at.1 size.1 ≡ b → cond (a && b) 0 (step_count connectivity) < step_count connectivity → (at.0 < size.0) × (at.1 < size.1)
      cases true true ea eb lt = (ltb-true _ _ ea, ltb-true _ _ eb)
      cases true false ea eb lt = absurd (omega arith)
      cases false b ea eb lt = absurd (omega arith)

  pub none_done : (e : Edges) → at.0 < size.0 → at.1 < size.1 → start_of e size connectivity at ≡ 0
  none_done Open lr lc = refl
  none_done Joined lr lc = ap (λ b. cond (b && nat_lt at.1 size.1) 0 (step_count connectivity)) (lt-ltb _ _ lr) ∙ ap (λ b. cond b 0 (step_count connectivity)) (lt-ltb _ _ lc)

-- as many cells as positions, where there is a cell at each
pub around_within : (n k i : ℕ) → k < n → around n k i < n
around_within n k zero lt = mod_below (k + n - 1) n (omega arith)
around_within n k (suc zero) lt = lt
around_within n k (suc (suc i)) lt = mod_below (k + 1) n (omega arith)

module _ {T : Type 0} (f : ℕ → ℕ → Option T) (size at : ℕ × ℕ) (there : (r c : ℕ) → r < size.0 → c < size.1 → IsSome (f r c)) (connectivity : Connectivity) where
  one_left : at.0 < size.0 → at.1 < size.1 → (k : ℕ) → k < step_count connectivity → length (cells_from f Joined size connectivity at k) ≡ suc (length (cells_from f Joined size connectivity at (k + 1)))
  one_left lr lc k lt =
      let r = around size.0 at.0 (box connectivity k / 3) in
      let c = around size.1 at.1 (box connectivity k % 3) in
      ap length (cells_left f Joined size connectivity at k lt)
      ∙ length_cons _ (cells_from f Joined size connectivity at (k + 1)) (mapped_there (λ x. ((r, c), x)) (f r c) (there r c (around_within size.0 at.0 (box connectivity k / 3) lr) (around_within size.1 at.1 (box connectivity k % 3) lc)))

  left_by : at.0 < size.0 → at.1 < size.1 → (d k : ℕ) → k + d ≡ step_count connectivity → length (cells_from f Joined size connectivity at k) ≡ d
  left_by lr lc zero k e = ap length (no_cells f Joined size connectivity at k (omega arith))
  left_by lr lc (suc d) k e = one_left lr lc k (omega arith) ∙ ap suc (left_by lr lc d (k + 1) (omega arith))

  length-joined_from : (k : ℕ) → (k < step_count connectivity → at.0 < size.0) → (k < step_count connectivity → at.1 < size.1) → length (cells_from f Joined size connectivity at k) ≡ step_count connectivity - k
  length-joined_from k lr lc = elim (cases_lt k (step_count connectivity)) [
    | inl lt ↦ left_by (lr lt) (lc lt) (step_count connectivity - k) k (omega arith)
    | inr ge ↦ ap length (no_cells f Joined size connectivity at k ge) ∙ omega arith
  ]

  pub joined_left : (e : Edges) → e ≡ Joined → (inner : Bool) (passed tried : ℕ) → (passed < step_count connectivity → at.0 < size.0) → (passed < step_count connectivity → at.1 < size.1) → length (cells_from f e size connectivity at (next_step e inner passed tried)) ≡ step_count connectivity - passed
  joined_left Open is inner passed tried lr lc = absurd (cc is)
  joined_left Joined is inner passed tried lr lc = length-joined_from passed lr lc
