-- Lines that a closure rewrites, each as a slice.
use Rattle.std.specs.Prelude.{◌≡◌, List}
use Rattle.std.specs.Borrow.{MutBor}
use Rattle.std.specs.Fn.{Mut, CalledAtMut}
use Rattle.grid_base.specs.ClosureCalls.{MapsTo}

-- each line of new is what a call at the same line of old left there, from f on and in turn
abbrev pub AreRewritten : {F T : Type 0} → Mut F (MutBor (List T) × Unit {0})
    (Unit {0} × (MutBor (List T) × Unit {0})) → F → List (List T) → List (List T) → Type 0
AreRewritten g f old new = MapsTo (λ p x y q. CalledAtMut g p x tt q y) f old new

-- a call of the closure f makes a line `line` `change line`, and leaves f as it was
abbrev pub RewritesBy : {F T : Type 0} → (F → MutBor (List T) → Unit {0} → MutBor (List T) → F
    → Type 0) → F → (List T → List T) → Type 0
RewritesBy {F} {T} step f change = (line left : MutBor (List T)) (g : F) → step f line tt left g
    → (left.now ≡ change line.now) × (g ≡ f)
