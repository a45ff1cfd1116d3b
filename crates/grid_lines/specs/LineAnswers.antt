-- What a closure answers of a line.
use Rattle.std.specs.Prelude.{◌≡◌, List}

-- a call of the closure f at a line answers what `answer` says of it, and leaves f as it was
abbrev pub AnswersBy : {F T R : Type 0} → (F → List T → R → F → Type 0) → F → (List T → R) → Type 0
AnswersBy {F} {T} {R} step f answer = (line : List T) (r : R) (g : F) → step f line r g
    → (r ≡ answer line) × (g ≡ f)

-- whatever its state, a call of the closure at a line answers what `answer` says of it
abbrev pub AnswersAlways : {F T R : Type 0} → (F → List T → R → F → Type 0) → (List T → R) → Type 0
AnswersAlways {F} {T} {R} step answer = (f : F) (line : List T) (r : R) (g : F) → step f line r g
    → r ≡ answer line
