-- The first rows are kept.
use Rattle.std.proofs.Common.{arith}
use Rattle.grid.proofs.Lemmas.{corner_rows}
use Rattle.grid.proofs.grid.Grid.keep_rows.Goals as goal

pub returns-clause-corner : goal.returns-clause-corner
returns-clause-corner g c =
    corner_rows c.delete_rows.result _ _ _ _ c.delete_rows.ensures.found c.delete_rows.ensures.rows c.requires.some (omega arith)
