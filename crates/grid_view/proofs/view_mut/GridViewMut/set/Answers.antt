use Rattle.std.proofs.Common.{Some, slice_get, set, sym, ap, ◌∙◌, arith}
use Rattle.std.proofs.lemmas.Option.{slice_get-get_or}
use Rattle.grid_base.specs.Order.{table_of}
use Rattle.grid_view.specs.View.{sub_table}
use Rattle.grid_view.proofs.PartLemmas.{rows-shown, cols-shown, cell-shown, board-set, shown-set, past_shown_rows, past_shown_cols}
use Rattle.grid_view.proofs.view_mut.GridViewMut.set.Goals as goal
use Rattle.grid_view.proofs.view_mut.GridViewMut.set.Goals.{else-row-self-via-then-row-self+else-col-self, else-row-self-via-else-row-self}

pub returns-then-col-self-clause-cell : goal.returns-then-col-self-clause-cell
returns-then-col-self-clause-cell g c =
    let v = c.args.self.now in
    let at = c.place-place in
    ap Some c.replace.ensures.value
    ∙ (sym (slice_get-get_or v.cells.now at.result c.index-cells-place.result at.ensures.within)
    ∙ (ap (slice_get v.cells.now) at.ensures.place
    ∙ sym (cell-shown v.board v.cells.now v.stored v.at v.size v.within c.args.row c.args.col c.if-row-self.true c.if-col-self.true)))

pub returns-then-col-self-clause-in_range : goal.returns-then-col-self-clause-in_range
returns-then-col-self-clause-in_range g c =
    let v = c.args.self.now in
    (omega (arith, rows-shown v.board v.cells.now v.stored v.at v.size v.within, c.if-row-self.true), omega (arith, cols-shown v.board v.cells.now v.stored v.at v.size v.within, c.if-col-self.true))

pub returns-then-col-self-clause-rows : goal.returns-then-col-self-clause-rows
returns-then-col-self-clause-rows g c =
    let v = c.args.self.now in
    ap (λ w. sub_table (table_of v.board.order v.board.rows v.board.cols (set v.cells.now c.place-place.result w)) v.at v.size) c.replace.ensures.after
    ∙ (ap (λ k. sub_table (table_of v.board.order v.board.rows v.board.cols (set v.cells.now k c.args.value)) v.at v.size) c.place-place.ensures.place
    ∙ shown-set v.board v.cells.now v.stored v.at v.size v.within c.args.row c.args.col c.if-row-self.true c.if-col-self.true c.args.value)

pub returns-then-col-self-clause-board : goal.returns-then-col-self-clause-board
returns-then-col-self-clause-board g c =
    let v = c.args.self.now in
    ap (λ w. table_of v.board.order v.board.rows v.board.cols (set v.cells.now c.place-place.result w)) c.replace.ensures.after
    ∙ (ap (λ k. table_of v.board.order v.board.rows v.board.cols (set v.cells.now k c.args.value)) c.place-place.ensures.place
    ∙ board-set v.board v.cells.now v.stored v.at v.size v.within c.args.row c.args.col c.if-row-self.true c.if-col-self.true c.args.value)

pub returns-else-row-self-clause-cell : goal.returns-else-row-self-clause-cell
returns-else-row-self-clause-cell g c =
    let v = c.args.self.now in
    elim c.else-row-self.branch [
      | else-row-self-via-then-row-self+else-col-self w ↦ sym (past_shown_cols v.board v.cells.now v.stored v.at v.size v.within c.args.row c.args.col w.if-col-self.false)
      | else-row-self-via-else-row-self w ↦ sym (past_shown_rows v.board v.cells.now v.stored v.at v.size v.within c.args.row c.args.col w.if-row-self.false)
    ]

pub returns-else-row-self-clause-in_range : goal.returns-else-row-self-clause-in_range
returns-else-row-self-clause-in_range g c =
    let v = c.args.self.now in
    elim c.else-row-self.branch [
      | else-row-self-via-then-row-self+else-col-self w ↦ λ h. omega (arith, h.1, cols-shown v.board v.cells.now v.stored v.at v.size v.within, w.if-col-self.false)
      | else-row-self-via-else-row-self w ↦ λ h. omega (arith, h.0, rows-shown v.board v.cells.now v.stored v.at v.size v.within, w.if-row-self.false)
    ]
