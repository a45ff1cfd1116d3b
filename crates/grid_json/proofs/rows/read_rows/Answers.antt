-- One row more, or the first item that is none.
use Rattle.std.proofs.Common.{◌∙◌, inr, map, ap, sym}
use Rattle.grid_json.proofs.Common.{err_from_is_err_and, view, AnswersItem, array_of}
use Rattle.grid_json.proofs.Lemmas.{array_is, rows_start, rows_next, rows_bad, rows_ragged, rows_end}
use Rattle.grid_json.proofs.rows.read_rows.Goals as goal

pub loop-row-init : goal.loop-row-init
loop-row-init g c = rows_start (AnswersItem (goal.F-post g) c.args.read.now) _ _ c.new-rows.ensures

pub returns-in_err-push_row : goal.returns-in_err-push_row
returns-in_err-push_row g c =
    let p = err_from_is_err_and c.from_residual.result c.from_residual.ensures.1 in
    let whole = c.deref-item-items.ensures.value in
    rw (p.1, p.2) (inr (
      map view c.deref-item-items.result.now,
      array_is _ _ (sym c.in-Some.ensures) ∙ ap (λ xs. array_of (map view xs)) (sym whole),
      rows_bad (AnswersItem (goal.F-post g) c.args.read.now) _ _ _ c.loop-row.invariant _ c.loop-row-test.true c.item-item.is _ c.in_err-push_row.ensures,
    ))

pub returns-in-Err-Ragged : goal.returns-in-Err-Ragged
returns-in-Err-Ragged g c =
    let whole = c.deref-item-items.ensures.value in
    let ragged = rw c.in-Err-Ragged.field-0-is at c.in-Err-Ragged.ensures in
    rw c.in-Err-Ragged.field-0-is (inr (
      map view c.deref-item-items.result.now,
      array_is _ _ (sym c.in-Some.ensures) ∙ ap (λ xs. array_of (map view xs)) (sym whole),
      inr (rows_ragged (AnswersItem (goal.F-post g) c.args.read.now) _ _ _ c.loop-row.invariant _ c.loop-row-test.true c.item-item.is _ c.in_ok-push_row.ensures _ _ _ ragged.0),
    ))

pub loop-row-preserved : goal.loop-row-preserved
loop-row-preserved g c =
    rows_next (AnswersItem (goal.F-post g) c.args.read.now) _ _ _ c.loop-row.invariant _ c.loop-row-test.true c.item-item.is _ c.in_ok-push_row.ensures _ c.in-Ok.ensures

pub returns : goal.returns
returns g c =
    let whole = c.deref-item-items.ensures.value in
    let e = c.into_grid.ensures in
    inr (
      map view c.deref-item-items.result.now,
      array_is _ _ (sym c.in-Some.ensures) ∙ ap (λ xs. array_of (map view xs)) (sym whole),
      (e.order, (_, _, rows_end (AnswersItem (goal.F-post g) c.args.read.now) _ _ _ c.loop-row.invariant c.loop-row-test.false, e.rows)),
    )
