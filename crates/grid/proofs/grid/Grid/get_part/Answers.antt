use Rattle.grid.proofs.grid.Grid.get_part.Goals as goal

pub returns : goal.returns
returns g c = rw (← c.view.ensures) c.get_part.ensures
