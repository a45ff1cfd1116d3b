use Rattle.grid.proofs.Lemmas.{RowsSwapping}
use Rattle.grid.proofs.grid.Grid.swap_cells_of_rows.Given as goal

abbrev pub invariant-loop-col : goal.invariant-loop-col
invariant-loop-col g l = RowsSwapping l.a l.b l.col l.fn.self l.self
