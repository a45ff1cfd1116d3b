-- How a call that appends a grid fails: as too large exactly where the cells would be too many, and
-- with nothing changed.
use Rattle.std.specs.Prelude.{◌≡◌, ◌↔◌, ℕ, [], Result, IsOk, IsErrAnd, IfErr, OnErr}
use Rattle.grid_base.specs.GridValue.{GridValue}
use Rattle.grid_commands.specs.declared.error.GridError.TheVariants.{TooLarge}
use Rattle.grid.specs.declared.edits.append.GridRefused.{GridRefused}
use Rattle.grid.specs.Make.{ExceedsMax}

module _ {T A X : Type 0} where
  -- a grid that would make m rows of n cells each; it comes back
  pub record GridFails (m n : ℕ) (other old new : GridValue T)
      (result : Result X (GridRefused T A)) : Type 0 where
    pub too_large : IsErrAnd result (λ refused. refused.fault ≡ TooLarge) ↔ ExceedsMax m n
    pub none : other.rows ≡ [] → IsOk result
    pub grid_back : IfErr result (λ refused. refused.grid ≡ other)
    pub unchanged : OnErr result (new ≡ old)
