-- The first rows, and of the transposed table again.
use Rattle.grid.proofs.Lemmas.{corner_both}
use Rattle.grid.proofs.grid.Grid.shrink.Goals as goal

pub returns-clause-corner : goal.returns-clause-corner
returns-clause-corner g c =
    corner_both _ _ _ _ _ _ _ c.keep_rows.new.self.table c.keep_rows-2.new.self.table c.keep_rows.ensures.corner c.transpose.ensures.rows c.keep_rows-2.ensures.corner c.transpose-2.ensures.rows c.requires.in_cols c.requires.some_rows
