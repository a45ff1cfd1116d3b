use Rattle.std.proofs.Common.{sym, ap, length, arith}
use Rattle.grid.proofs.Lemmas.{seen_rows, seen_cols, sides_small}
use Rattle.grid.proofs.grid.Grid.size.Goals as goal

pub returns-clause-rows : goal.returns-clause-rows
returns-clause-rows g c = sym (seen_rows _ _ _ _ _ c.self.inside.fits c.self.view_is)

pub returns-clause-cols : goal.returns-clause-cols
returns-clause-cols g c = sym (seen_cols _ _ _ _ _ c.self.inside.fits c.self.view_is)

pub returns-clause-small : goal.returns-clause-small
returns-clause-small g c =
    sides_small _ _ _ c.self.inside.fits (omega (arith, ap length c.as_vec.ensures, c.as_vec.result.now.ok, c.as_vec.result.now.small))
