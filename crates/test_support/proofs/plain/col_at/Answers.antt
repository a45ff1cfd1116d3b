use Rattle.grid.specs.Prelude.{act}
use Rattle.test_support.proofs.plain.col_at.Goals as goal

pub returns : goal.returns
unfolding act
returns g c = rw c.in_ok-turned.ensures at c.line_at.ensures
