use Rattle.std.proofs.Common.{◌-◌}
use Rattle.grid_callers.proofs.pictures.negative.Goals as goal

pub returns : goal.returns
returns g c = c.pgm_written_and_read.ensures.rows (λ x. 255 - x) (λ cell x said. said)
