use Rattle.std.proofs.Common.{rules}
use Rattle.grid.proofs.Lemmas.{mapped_as}
use Rattle.grid.proofs.grid.Grid.map_around.Goals as goal

pub returns-clause-cells : goal.returns-clause-cells
returns-clause-cells g c =
    mapped_as c.args.self.now.rows (λ made. made.rows) _ _ _ _ c.map_indexed.result c.map_indexed.ensures.cells (λ row col p y within is said. search rules)
