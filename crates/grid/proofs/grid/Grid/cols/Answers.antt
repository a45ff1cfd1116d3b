use Rattle.grid.proofs.grid.Grid.cols.Goals as goal

pub returns : goal.returns
returns g c = record { cols = c.size.ensures.cols; small = c.size.ensures.small.1 }
