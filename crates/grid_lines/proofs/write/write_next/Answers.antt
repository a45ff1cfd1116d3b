-- The item is in the cell.
use Rattle.std.proofs.Common.{None, Some, refl}
use Rattle.grid_lines.proofs.WrittenLemmas.{found_put}
use Rattle.grid_lines.proofs.write.write_next.Goals as goal

pub returns-in-Some-clause-item : goal.returns-in-Some-clause-item
returns-in-Some-clause-item g c = (Some c.in-Some.item, c.in-Some.ensures.steps, (refl, c.in-Some.ensures.goes.keeps, found_put _ _ c.args.at.0 c.args.at.1 c.in-Some.item c.set.result c.requires.in_range c.set.ensures.in_range c.set.ensures.rows))

pub returns-in-None-clause-item : goal.returns-in-None-clause-item
returns-in-None-clause-item g c = (None, c.in-None.ensures.steps, (refl, refl))
