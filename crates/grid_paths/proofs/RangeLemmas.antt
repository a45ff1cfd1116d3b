-- The positions of floods and paths are in range.
use Rattle.std.proofs.Common.{◌≡◌, ℕ, zero, suc, List, Bool, Option, Some, Result, Ok, Err, None, slice_get, slice_index_or, MatchOption, IfOk, IfSome, Bor, arith}
use Rattle.std.specs.List.{All}
use Rattle.std.proofs.lemmas.List.Elements.{Contains-get_or}
use Rattle.grid_near.specs.declared.steps.Connectivity.{Connectivity}
use Rattle.grid_paths.specs.declared.taken.Enter.{Enter}
use Rattle.grid_paths.proofs.Common.{cell, InRange, cell_in_range, slice_get-get_or, AreAnswers, HoldsOfAnswers, IsEntered, EnterWalk, IsFlood, IsShortestPath, IsCheapestPath}

-- a walk ends where it enters
entered : (connectivity : Connectivity) (ways : List (List Enter)) (from a : ℕ × ℕ) (n : ℕ) → EnterWalk connectivity ways from a n → IsEntered ways a
entered connectivity ways from a zero h = h.1
entered connectivity ways from a (suc n) h = h.4

module _ {F T R : Type 0} (returns : F → Bor T → R → Type 0) (f : F) (t : List (List T)) where
  -- a table of answers has no cell that the table has not
  in_answers : (u : List (List R)) → AreAnswers returns f t u → (r c : ℕ) (y : R) → cell u r c ≡ Some y → InRange t r c
  in_answers u a r c y e =
      let within = cell_in_range u a.table r c y e in
      (omega (arith, within.0, a.rows), omega (arith, within.1, a.cols))

  -- each element of a list is in range where each place has an answer
  all_in_range : (u : List (List R)) → AreAnswers returns f t u → (list : List (ℕ × ℕ)) → ((k : ℕ) (a : ℕ × ℕ) → slice_get list k ≡ Some a → (y : R) × (cell u a.0 a.1 ≡ Some y)) → All (λ at. InRange t at.0 at.1) list
  all_in_range u a list each k d lt =
      let y = each k (slice_index_or list k d) (slice_get-get_or list k d lt) in
      in_answers u a (slice_index_or list k d).0 (slice_index_or list k d).1 y.0 y.1

module _ {F T : Type 0} (f : F) (t : List (List T)) (connectivity : Connectivity) where
  pub flood_in_range : (returns : F → Bor T → Enter → Type 0) (starts found : List (ℕ × ℕ)) → HoldsOfAnswers returns f t (λ ways. IsFlood connectivity ways starts found) → All (λ at. InRange t at.0 at.1) found
  flood_in_range returns starts found h k d lt =
      let at = slice_index_or found k d in
      let w = h.some.2.walk at (Contains-get_or found k d lt) in
      let e = entered connectivity h.some.0 w.0 at w.1 w.3 in
      in_answers returns f t h.some.0 h.some.1 at.0 at.1 e.0 e.1

  pub path_in_range : (returns : F → Bor T → Bool → Type 0) (from to : ℕ × ℕ) (path : List (ℕ × ℕ)) → HoldsOfAnswers returns f t (λ mask. IsShortestPath connectivity mask from to path) → All (λ at. InRange t at.0 at.1) path
  path_in_range returns from to path h =
      all_in_range returns f t h.some.0 h.some.1 path (λ k a e. (Bool.true, h.some.2.leads.all_open k a e))

  pub cheap_in_range : (returns : F → Bor T → Option ℕ → Type 0) (from to : ℕ × ℕ) (path : List (ℕ × ℕ)) (sum : ℕ) → HoldsOfAnswers returns f t (λ costs. IsCheapestPath connectivity costs from to path sum) → All (λ at. InRange t at.0 at.1) path
  cheap_in_range returns from to path sum h =
      all_in_range returns f t h.some.0 h.some.1 path (λ k a e. let c = h.some.2.leads.each_cost k a e in (Some c.0, c.1))

  -- as far as something is found
  pub found_in_range : {E V : Type 0} (returns : F → Bor T → Option ℕ → Type 0) (r : Result (Option V) E) (none : Type 0) (from to : ℕ × ℕ) (path : V → List (ℕ × ℕ)) (sum : V → ℕ) → IfOk r (λ o. MatchOption o none (λ v. HoldsOfAnswers returns f t (λ costs. IsCheapestPath connectivity costs from to (path v) (sum v)))) → IfOk r (λ o. IfSome o (λ v. All (λ at. InRange t at.0 at.1) (path v)))
  found_in_range returns (Ok (Some v)) none from to path sum h = cheap_in_range returns from to (path v) (sum v) h
  found_in_range returns (Ok None) none from to path sum h = tt
  found_in_range returns (Err e) none from to path sum h = tt
