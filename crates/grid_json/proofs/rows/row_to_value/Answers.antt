-- The value of one cell more.
use Rattle.std.proofs.Common.{refl}
use Rattle.grid_json.proofs.Common.{AnswersCell}
use Rattle.grid_json.proofs.Lemmas.{values_start, values_next, values_end}
use Rattle.grid_json.proofs.rows.row_to_value.Goals as goal

pub loop-cell-init : goal.loop-cell-init
loop-cell-init g c = values_start (AnswersCell (goal.F-post g) c.args.write.now) _ _ _ c.into_iter-cell-iterator.ensures.into_iter_gives c.new-list.ensures.items

pub loop-cell-preserved : goal.loop-cell-preserved
loop-cell-preserved g c =
    let said = rw c.in_ok-write.was at c.write.ensures in
    values_next (AnswersCell (goal.F-post g) c.args.write.now) _ _ _ c.loop-cell.invariant _ _ _ _ c.in-Some.ensures.steps (record { cell = _; value = _; is_cell = refl; is_data = refl; answers = said }) c.in_ok-push.ensures.items

pub returns : goal.returns
returns g c = record {
  items = _;
  are_items = values_end (AnswersCell (goal.F-post g) c.args.write.now) _ _ _ c.loop-cell.invariant c.in-None.ensures.steps.0;
  is = c.array_of.ensures;
}
