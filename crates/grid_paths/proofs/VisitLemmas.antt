-- What visits of the positions of a list do together.
use Rattle.std.proofs.Common.{ℕ, List, [], ◌∷◌, OnOk, subst, inl, inr}
use Rattle.std.proofs.lemmas.Result.{IfOk-from_err}
use Rattle.std.specs.declared.result.Result.TheVariants.{Ok, Err}
use Rattle.grid_paths.proofs.Common.{on_ok_weaker, Outcome, VisitsEach}

OnOk-from : (r : Outcome) (P : Type 0) → P → OnOk r P
OnOk-from (Ok x) P p = p
OnOk-from (Err e) P p = tt

module _ {V : Type 0} (visits : ℕ × ℕ → Outcome → V → V → Type 0) where
  -- what holds after no visit, and after one more before the others
  pub visited_each : (all : List (ℕ × ℕ) → V → V → Type 0) → ((s : V) → all [] s s) → ((at : ℕ × ℕ) (later : List (ℕ × ℕ)) (s t u : V) → visits at (Ok tt) s t → all later t u → all (at ∷ later) s u) → (near : List (ℕ × ℕ)) (r : Outcome) (s u : V) → VisitsEach visits near r s u → OnOk r (all near s u)
  visited_each all none more [] r s u is = OnOk-from r (all [] s u) (subst (λ v. all [] s v) is (none s))
  visited_each all none more (at ∷ later) r s u (inl (t, one, rest)) = on_ok_weaker r (λ h. more at later s t u one h) (visited_each all none more later r t u rest)
  visited_each all none more (at ∷ later) r s u (inr (q, e, f, one)) = IfOk-from_err r (λ _. all (at ∷ later) s u) f

  -- what each visit keeps, one that fails too
  pub kept_each : (keeps : V → V → Type 0) → ((s : V) → keeps s s) → ((s t u : V) → keeps s t → keeps t u → keeps s u) → ((at : ℕ × ℕ) (r : Outcome) (s t : V) → visits at r s t → keeps s t) → (near : List (ℕ × ℕ)) (r : Outcome) (s u : V) → VisitsEach visits near r s u → keeps s u
  kept_each keeps same trans one [] r s u is = subst (λ v. keeps s v) is (same s)
  kept_each keeps same trans one (at ∷ later) r s u (inl (t, h, rest)) = trans s t u (one at (Ok tt) s t h) (kept_each keeps same trans one later r t u rest)
  kept_each keeps same trans one (at ∷ later) r s u (inr (q, e, f, h)) = one at q s u h
