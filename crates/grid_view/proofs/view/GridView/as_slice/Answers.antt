use Rattle.std.proofs.Common.{sym, ◌∙◌, ap, length-take-le}
use Rattle.grid_base.specs.Table.{concat_rows}
use Rattle.grid_view.proofs.SeenLemmas.{cells_within, seen_in_turn}
use Rattle.grid_view.proofs.view.GridView.as_slice.Goals as goal

pub slice_bounds-result-end : goal.slice_bounds-result-end
slice_bounds-result-end g c =
    let v = c.self.inside in
    sym (length-take-le _ _ (cells_within v.rows v.cols v.cells.now v.fits (c.steps_by.ensures.steps c.if-steps_by.true) (c.steps_by-then-steps_by.ensures.steps c.if-steps_by-2.true)))

pub returns-then-steps_by-2 : goal.returns-then-steps_by-2
returns-then-steps_by-2 g c =
    let v = c.self.inside in
    seen_in_turn v.rows v.cols v.cells.now v.fits (c.steps_by.ensures.steps c.if-steps_by.true) (c.steps_by-then-steps_by.ensures.steps c.if-steps_by-2.true)
    ∙ ap (λ x. concat_rows x.rows) c.self.view_is
