use Rattle.std.proofs.Common.{Some, sym, ◌+◌, ◌∙◌, ◌∷◌, ap, refl, slice_get, arith}
use Rattle.grid_near.proofs.Common.{slice_get_read, around, cell_by, by_steps, cells_from}
use Rattle.grid_near.proofs.Lemmas.{step_item}
use Rattle.grid_near.specs.declared.board.Edges.TheVariants.{Joined}
use Rattle.grid_near.proofs.neighbors.joined_cell.Goals as goal

pub returns : goal.returns
returns g c =
    let a = c.args in
    let cells = a.table.cells.now in
    let where_is = by_steps a.table.start a.table.strides in
    let row = c.around-row.ensures in
    let col = c.around-col.ensures in
    let within = c.requires.holds _ _ row.within col.within in
    step_item cells a.table.size where_is Joined a.connectivity a.at a.k c.around-row.result c.around-col.result c.index-table-place.result c.requires.step (ap Some (sym (row.is ∙ ap (around a.table.size.0 a.at.0) c.offset-i.ensures.row))) (ap Some (sym (col.is ∙ ap (around a.table.size.1 a.at.1) c.offset-i.ensures.col))) row.within col.within
    (ap (slice_get cells) (sym c.place_from-place.ensures) ∙ slice_get_read cells _ _ _ refl (omega (arith, c.place_from-place.ensures, within)) c.index-table-place.is)
    ∙ ap (λ x. ((c.around-row.result, c.around-col.result), x) ∷ cells_from (cell_by cells a.table.size where_is) Joined a.table.size a.connectivity a.at (a.k + 1)) c.index-table-place.is
