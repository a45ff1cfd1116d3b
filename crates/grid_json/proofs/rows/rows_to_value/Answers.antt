-- The value of one row more.
use Rattle.std.proofs.Common.{sym, ap, ◌∙◌}
use Rattle.grid_json.proofs.Common.{AnswersCell, MayBeRow}
use Rattle.grid_json.proofs.Lemmas.{values_start, values_next, values_end, is_rows}
use Rattle.grid_json.proofs.rows.rows_to_value.Goals as goal

pub loop-row-init : goal.loop-row-init
loop-row-init g c = values_start (MayBeRow (AnswersCell (goal.F-post g) c.args.write)) _ _ _ (c.into_iter-row-iterator.ensures.into_iter_gives ∙ c.iter_rows-row-items.ensures.gives.0 ∙ c.as_view.ensures) c.new-list.ensures.items

pub loop-row-preserved : goal.loop-row-preserved
loop-row-preserved g c =
    values_next (MayBeRow (AnswersCell (goal.F-post g) c.args.write)) _ _ _ c.loop-row.invariant _ _ _ _ c.in-Some.ensures.steps c.in_ok-row_to_value.ensures c.in_ok-push.ensures.items

pub returns-clause-answers : goal.returns-clause-answers
returns-clause-answers g c = record {
  items = _;
  are_items = values_end (MayBeRow (AnswersCell (goal.F-post g) c.args.write)) _ _ _ c.loop-row.invariant c.in-None.ensures.steps.0;
  is = c.array_of.ensures;
}

pub returns-clause-value : goal.returns-clause-value
returns-clause-value g c = λ h by.
    is_rows (AnswersCell (goal.F-post g) c.args.write) h (λ x d a. sym a.is_data ∙ (by a.cell a.value a.answers ∙ ap h a.is_cell)) _ _ (returns-clause-answers g c)
