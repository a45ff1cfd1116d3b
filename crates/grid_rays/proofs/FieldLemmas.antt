-- What a field of view says of each of its cells.
use Rattle.std.proofs.Common.{◌≡◌, ◌↔◌, ℕ, Bool, true, false, IsSome, Option, None, Some, List, Result, Ok, Err, IfOk, refl, arith, Bor}
use Rattle.std.proofs.lemmas.Bool.{false≢true}
use Rattle.grid_base.specs.GridValue.{GridValue, SameSizeAndOrder}
use Rattle.grid_base.specs.Table.{cell}
use Rattle.grid_base.proofs.TableLemmas.{cell_in_range, IsFull-cells}
use Rattle.grid.specs.AllCells.{MappedBy}
use Rattle.grid_rays.specs.Sight.{IsNearby, TellsInView, Sees, IsTest}
use Rattle.grid_rays.proofs.SightLemmas.{Sees-told}

module _ {F T : Type 0} (returns : F → Bor T → Bool → Type 0) (f : F) (radius : Option ℕ) (a : ℕ × ℕ) where
  -- each cell of a grid that a closure made says so
  pub view_tells : {G E : Type 0} (v : GridValue T) (P : G → ℕ × ℕ → Bor T → Bool → Type 0) (g : G) (made : Result (GridValue Bool) E) → IfOk made (SameSizeAndOrder v) → IfOk made (λ w. MappedBy P g v.rows w.rows) → ((i j : ℕ) (p : Bor T) (y : Bool) → P g (i, j) p y → TellsInView returns f v.rows radius a (i, j) y) → IfOk made (λ w. (at : ℕ × ℕ) (y : Bool) → cell w.rows at.0 at.1 ≡ Some y → TellsInView returns f v.rows radius a at y)
  view_tells v P g (Err e) same maps says = tt
  view_tells v P g (Ok w) same maps says = λ at y e.
      let inside = cell_in_range w.rows w.table at.0 at.1 y e in
      let there = rw e at (maps.answers at.0 at.1 (omega (arith, inside.0, same.rows), omega (arith, inside.1, same.cols))) in
      says at.0 at.1 there.0 y there.2

  -- where a test says what the closure answers
  module _ (t : List (List T)) (p : T → Bool) (test : IsTest returns f p) where
    seen_cell : (o : Option Bool) (at : ℕ × ℕ) → IsSome o → ((y : Bool) → o ≡ Some y → TellsInView returns f t radius a at y) → IsNearby radius a at → Sees p t a at → o ≡ Some true
    seen_cell None at some tells near s = absurd (cc)
    seen_cell (Some true) at some tells near s = refl
    seen_cell (Some false) at some tells near s =
        absurd (false≢true ((Sees-told returns f t p test a at false (tells false refl near)).1 s))

    pub view_seen : {E : Type 0} (v : GridValue T) → v.rows ≡ t → (made : Result (GridValue Bool) E) → IfOk made (SameSizeAndOrder v) → IfOk made (λ w. (at : ℕ × ℕ) (y : Bool) → cell w.rows at.0 at.1 ≡ Some y → TellsInView returns f t radius a at y) → IfOk made (λ w. (at : ℕ × ℕ) → (cell w.rows at.0 at.1 ≡ Some true) ↔ (IsNearby radius a at × Sees p t a at))
    view_seen v is (Err e) same tells = tt
    view_seen v is (Ok w) same tells = λ at. (
      λ e. let h = tells at true e in (h.0, (Sees-told returns f t p test a at true h.1).0 refl),
      λ s.
          let inside = (rw (← is) at s.1.to_in) in
          seen_cell (cell w.rows at.0 at.1) at ((IsFull-cells w.rows w.table).full at.0 at.1 (omega (arith, inside.0, same.rows)) (omega (arith, inside.1, same.cols))) (tells at) s.0 s.1,
    )
