use Rattle.std.proofs.Common.{false, arith}
use Rattle.grid_view.specs.Found.{AnswersAt}
use Rattle.grid_view.proofs.PositionLemmas.{before_none, before_next, before_row, before_all}
use Rattle.grid_view.proofs.view.GridView.position.Goals as goal

pub loop-row-init : goal.loop-row-init
loop-row-init g c = before_none c.args.self.now.rows (λ at. AnswersAt (goal.F-post g) c.args.test c.args.self.now.rows at false)

pub loop-col-preserved : goal.loop-col-preserved
loop-col-preserved g c =
    before_next c.args.self.now.rows (λ at. AnswersAt (goal.F-post g) c.args.test c.args.self.now.rows at false) c.loop-row.row c.loop-col.col c.loop-col.invariant
    (c.get_unchecked.result, c.get_unchecked.ensures, c.if-test.ensures)

pub loop-row-preserved : goal.loop-row-preserved
loop-row-preserved g c =
    before_row c.args.self.now.rows (λ at. AnswersAt (goal.F-post g) c.args.test c.args.self.now.rows at false) c.loop-row.row c.loop-col.col (omega (arith, c.loop-col-test.false, c.size-rows.ensures.cols)) c.loop-col.invariant

pub returns : goal.returns
returns g c =
    before_all c.args.self.now.rows (λ at. AnswersAt (goal.F-post g) c.args.test c.args.self.now.rows at false) c.loop-row.row (omega (arith, c.loop-row-test.false, c.size-rows.ensures.rows)) c.loop-row.invariant
