use Rattle.std.proofs.Common.{◌∙◌, ap}
use Rattle.grid_near.proofs.Common.{holds, around_of}
use Rattle.grid_near.proofs.Lemmas.{stored_table}
use Rattle.grid_near.proofs.neighbors.neighbors_of.Goals as goal

pub returns-clause-gives : goal.returns-clause-gives
returns-clause-gives g c =
    let a = c.args in
    let h = holds a.layout _ c.requires.filled in
    let table = stored_table a.layout.order a.layout.rows a.layout.cols a.cells.now h c.strides_of.result c.strides_of.ensures in (
      c.neighbors_in.ensures.gives.0 ∙ ap (λ t. around_of a.connectivity a.edges t a.at.0 a.at.1) table,
      c.neighbors_in.ensures.gives.1,
      c.neighbors_in.ensures.gives.2,
    )
