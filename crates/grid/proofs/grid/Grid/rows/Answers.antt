use Rattle.grid.proofs.grid.Grid.rows.Goals as goal

pub returns : goal.returns
returns g c = record { rows = c.size.ensures.rows; small = c.size.ensures.small.0 }
