-- Iterators whose items are cells of a table, at their positions.
use Rattle.std.proofs.Common.{◌≡◌, ℕ, ◌<◌, List, Option, length, sym, subst, ◌∙◌, ap, arith, slice_index_or, Bor, MatchOption}
use Rattle.std.proofs.iter.runs.Lists.{slice_get_within}
use Rattle.grid_base.proofs.Common.{YieldsFirstBy, EveryRun, EachRunFrom, AllItems, ItemsMapTo, from_front, at_some, at-is, IsCellAt, GivesCells}

module _ {A : Type 0} (t : List (List A)) (whole : List ((ℕ × ℕ) × A)) (each : (k : ℕ) (x : (ℕ × ℕ) × A) → k < length whole → x ≡ slice_index_or whole k x → IsCellAt t x.0 x.1) where
  module _ {S B : Type 0} (steps : S → Option B → S → Type 0) (view : B → (ℕ × ℕ) × A) (shown : S → List ((ℕ × ℕ) × A)) (all : EveryRun steps (λ p. ItemsMapTo p view (shown p.from))) where
    -- each item of a run from all of them
    pub gives : (s : S) → shown s ≡ whole → EachRunFrom steps s (λ p. AllItems p (λ x. IsCellAt t (view x).0 (view x).1))
    gives s is p t from k =
        let maps = all p t in
        let cut : shown p.from ≡ whole = ap shown from ∙ is in
        at_some (p.at k) _ (λ x there.
        let inside : k < p.len = omega (arith, p.long, slice_get_within p.items k x (sym (at-is p k) ∙ there)) in
        let at : view x ≡ slice_index_or (shown p.from) k (view x) = subst (λ z. MatchOption z (Unit {0}) (λ y. view y ≡ slice_index_or (shown p.from) k (view y))) there (maps.8 k) in
        each k (view x) (omega (arith, maps.0, ap length cut)) (at ∙ ap (λ l. slice_index_or l k (view x)) cut))

  pub gives_cells_of : (s : List ((ℕ × ℕ) × A)) → s ≡ whole → GivesCells t s
  gives_cells_of s is = gives (YieldsFirstBy (λ (item : (ℕ × ℕ) × Bor A). (item.0, item.1.now)) (λ rest. rest)) (λ item. (item.0, item.1.now)) (λ rest. rest)
      (from_front (YieldsFirstBy (λ (item : (ℕ × ℕ) × Bor A). (item.0, item.1.now)) (λ rest. rest)) (λ item. (item.0, item.1.now)) (λ rest. rest) (λ s t h. ap length h.0) (λ s x t h. h)) s is
