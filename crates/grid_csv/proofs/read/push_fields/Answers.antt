-- One field more: a cell, or the first that is none.
use Rattle.std.proofs.Common.{◌≡◌, ◌∙◌, ◌+◌, inr, Some, sym, ap, refl}
use Rattle.grid_csv.proofs.Common.{field_at, fields_of, AnswersField}
use Rattle.grid_csv.proofs.Lemmas.{cells_start, cells_more, cells_bad, cells_end}
use Rattle.grid_csv.proofs.read.push_fields.Goals as goal

pub loop-index-init : goal.loop-index-init
loop-index-init g c =
    let made = c.into_iter-index-iterator.ensures.into_iter_gives in
    let e = c.enumerate-index-items.ensures in
    let gives = c.into_iter.ensures.into_iter_gives in
    let at : c.into_iter-index-iterator.result.iter.at ≡ 0 = rw (made, e.source) gives.1 in
    record {
      same = rw (made, e.source) gives.0;
      count = rw made e.count ∙ sym at;
      cells = rw at (cells_start (AnswersField (goal.F-post g) c.args.read.now) (fields_of c.args.row.now) c.args.rows.now);
    }

pub loop-index-preserved : goal.loop-index-preserved
loop-index-preserved g c =
    let i = c.loop-index.invariant in
    let step = c.in-Some.ensures.steps in
    let here : field_at (fields_of c.args.row.now) c.loop-index.index-iterator.iter.at ≡ Some c.in-Some.field.now = sym (rw i.same at step.0.1) in
    let said = rw (c.in_ok-cell.was, c.in-Some-2.is) at c.cell_of.ensures in
    record {
      same = ap (λ r. r.now) step.0.0 ∙ i.same;
      count = step.2 ∙ (ap (λ n. n + 1) i.count ∙ sym step.0.2);
      cells = rw step.0.2 (cells_more (AnswersField (goal.F-post g) c.args.read.now) _ _ _ _ i.cells _ _ _ here said c.in_ok-push-in-Some-2.ensures.pushed);
    }

pub returns-in-None-2 : goal.returns-in-None-2
returns-in-None-2 g c =
    let i = c.loop-index.invariant in
    let step = c.in-Some.ensures.steps in
    let here : field_at (fields_of c.args.row.now) c.loop-index.index-iterator.iter.at ≡ Some c.in-Some.field.now = sym (rw i.same at step.0.1) in
    let said = rw (c.in_ok-cell.was, c.in-None-2.is) at c.cell_of.ensures in
    let is : c.in-Some.index ≡ c.loop-index.index-iterator.iter.at = step.1 ∙ i.count in
    inr (_, refl, rw is (cells_bad (AnswersField (goal.F-post g) c.args.read.now) _ _ _ _ i.cells _ here said))

pub returns : goal.returns
returns g c =
    let i = c.loop-index.invariant in
    let step = c.in-None.ensures.steps in
    cells_end (AnswersField (goal.F-post g) c.args.read.now) _ _ _ _ i.cells (sym (rw i.same at step.0.1))
