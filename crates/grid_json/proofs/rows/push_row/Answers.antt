-- One cell more, or the first item that is none.
use Rattle.std.proofs.Common.{◌∙◌, inr, map, ap, refl, sym}
use Rattle.grid_json.proofs.Common.{view, AnswersItem, array_of}
use Rattle.grid_json.proofs.Lemmas.{array_is, cells_more, cells_bad, cells_end}
use Rattle.grid_json.proofs.rows.push_row.Goals as goal

pub returns-in-None : goal.returns-in-None
returns-in-None g c =
    let whole = c.deref-value-items.ensures.value in
    let said = rw (c.in_ok-cell.was, c.in-None.is) at c.read.ensures in
    let array = array_is _ _ (sym c.in-Some.ensures) ∙ ap (λ xs. array_of (map view xs)) (sym whole) in
    inr (λ cols. (refl, cells_bad (AnswersItem (goal.F-post g) c.args.read.now) _ _ _ _ c.loop-col.invariant _ c.loop-col-test.true c.value-item.is _ array (record { value = _; is_data = refl; answers = said })))

pub loop-col-preserved : goal.loop-col-preserved
loop-col-preserved g c =
    let said = rw (c.in_ok-cell.was, c.in-Some-2.is) at c.read.ensures in
    cells_more (AnswersItem (goal.F-post g) c.args.read.now) _ _ _ _ c.loop-col.invariant _ c.loop-col-test.true c.value-item.is _ _ (record { value = _; is_data = refl; answers = said }) c.in_ok-push-in-Some-2.ensures.pushed

pub returns : goal.returns
returns g c =
    let whole = c.deref-value-items.ensures.value in
    let array = array_is _ _ (sym c.in-Some.ensures) ∙ ap (λ xs. array_of (map view xs)) (sym whole) in
    cells_end (AnswersItem (goal.F-post g) c.args.read.now) _ _ _ _ c.loop-col.invariant c.loop-col-test.false _ array
