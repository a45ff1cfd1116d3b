use Rattle.std.proofs.Common.{Some, slice_get, sym, ap, ◌∙◌, arith}
use Rattle.std.proofs.lemmas.Option.{slice_get-get_or}
use Rattle.grid_view.proofs.PartLemmas.{rows-shown, cols-shown, cell-shown, past_shown_rows, past_shown_cols}
use Rattle.grid_view.proofs.view_mut.GridViewMut.get.Goals as goal
use Rattle.grid_view.proofs.view_mut.GridViewMut.get.Goals.{else-row-self-via-then-row-self+else-col-self, else-row-self-via-else-row-self}

pub returns-then-col-self-clause-cell : goal.returns-then-col-self-clause-cell
returns-then-col-self-clause-cell g c =
    let v = c.args.self.now in
    let at = c.place-place in
    ap Some c.index-cells-place.is
    ∙ (sym (slice_get-get_or v.cells.now at.result c.index-cells-place.result at.ensures.within)
    ∙ (ap (slice_get v.cells.now) at.ensures.place
    ∙ sym (cell-shown v.board v.cells.now v.stored v.at v.size v.within c.args.row c.args.col c.if-row-self.true c.if-col-self.true)))

pub returns-then-col-self-clause-in_range : goal.returns-then-col-self-clause-in_range
returns-then-col-self-clause-in_range g c =
    let v = c.args.self.now in
    (omega (arith, rows-shown v.board v.cells.now v.stored v.at v.size v.within, c.if-row-self.true), omega (arith, cols-shown v.board v.cells.now v.stored v.at v.size v.within, c.if-col-self.true))

pub returns-else-row-self-clause-cell : goal.returns-else-row-self-clause-cell
returns-else-row-self-clause-cell g c =
    let v = c.args.self.now in
    elim c.else-row-self.branch [
      | else-row-self-via-then-row-self+else-col-self w ↦ sym (past_shown_cols v.board v.cells.now v.stored v.at v.size v.within c.args.row c.args.col w.if-col-self.false)
      | else-row-self-via-else-row-self w ↦ sym (past_shown_rows v.board v.cells.now v.stored v.at v.size v.within c.args.row c.args.col w.if-row-self.false)
    ]
