use Rattle.std.proofs.Common.{◌∙◌, ◌<◌, sym, ap, slice_get, arith, refl}
use Rattle.grid_near.proofs.Common.{slice_get_read, step_count, cell_by, by_steps}
use Rattle.grid_near.proofs.Lemmas.{cells_skipped, no_cells, position_within, position_item}
use Rattle.grid_near.specs.declared.board.Edges.TheVariants.{Open}
use Rattle.grid_near.proofs.neighbors.find_from.Goals as goal

pub returns-then-k-step_count-clause-found : goal.returns-then-k-step_count-clause-found
returns-then-k-step_count-clause-found g c =
    let a = c.args in
    let where_is = by_steps a.table.start a.table.strides in
    let past = no_cells (cell_by a.table.cells.now a.table.size where_is) Open a.table.size a.connectivity a.at c.first_from-k.result (omega arith) in
    (cells_skipped a.table.cells.now a.table.size where_is a.connectivity a.at a.from c.first_from-k.result c.first_from-k.ensures.skips ∙ past, past)

pub returns-clause-found : goal.returns-clause-found
returns-clause-found g c =
    let a = c.args in
    let cells = a.table.cells.now in
    let where_is = by_steps a.table.start a.table.strides in
    let k = c.first_from-k.result in
    let lt : k < step_count a.connectivity = omega arith in
    let there = c.first_from-k.ensures.there lt in
    let i = c.offset-i.result.0 in
    let j = c.offset-i.result.1 in
    let within = position_within cells a.table.size where_is a.at a.connectivity k i j lt c.requires.holds there c.offset-i.ensures.row c.offset-i.ensures.col in
    cells_skipped cells a.table.size where_is a.connectivity a.at a.from k c.first_from-k.ensures.skips
    ∙ position_item cells a.table.size where_is a.at a.connectivity k i j lt c.requires.holds there c.offset-i.ensures.row c.offset-i.ensures.col c.index-cells-place_from.result
    (ap (slice_get cells) (sym c.place_from.ensures) ∙ slice_get_read cells _ _ _ refl (omega (arith, c.place_from.ensures, within)) c.index-cells-place_from.is)
