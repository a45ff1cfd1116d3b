use Rattle.std.proofs.Common.{◌≡◌, ℕ, Option, None, Some, List, arith, MatchOption}
use Rattle.grid_base.specs.Table.{row_count, col_count, InRange}
use Rattle.grid_near.specs.Directions.{IsWithin}
use Rattle.grid.proofs.grid.Grid.beside.Goals as goal

in_table : {T : Type 0} (t : List (List T)) (size : ℕ × ℕ) → size.0 ≡ row_count t → size.1 ≡ col_count t → (P : ℕ × ℕ → Type 0) (r : Option (ℕ × ℕ)) → MatchOption r ((to : ℕ × ℕ) → P to → IsWithin size to → ⊥) (λ to. P to × IsWithin size to) → MatchOption r ((to : ℕ × ℕ) → P to → InRange t to.0 to.1 → ⊥) (λ to. P to × InRange t to.0 to.1)
in_table t size er ec P None none = λ to p within. none to p (omega (arith, within.0, er), omega (arith, within.1, ec))
in_table t size er ec P (Some to) found = (found.0, (omega (arith, found.1.0, er), omega (arith, found.1.1, ec)))

pub returns : goal.returns
returns g c = in_table c.args.self.now.rows c.size.result c.size.ensures.rows c.size.ensures.cols _ c.step.result c.step.ensures
