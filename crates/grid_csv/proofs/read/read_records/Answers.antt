-- One record more: a row, or the first that is none.
use Rattle.std.proofs.Common.{◌≡◌, inr, refl, true, false, rules}
use Rattle.grid_csv.proofs.Common.{err_from_is_err_and, AnswersField}
use Rattle.grid_csv.proofs.Lemmas.{rows_start, rows_next, rows_bad, rows_ragged, rows_end}
use Rattle.grid_csv.proofs.read.read_records.Goals as goal

pub loop-number-init : goal.loop-number-init
loop-number-init g c = λ all has. (all, has, rows_start (AnswersField (goal.F-post g) c.args.read.now) c.args.first _ all _ refl c.requires.none.0 c.requires.none.1)

pub returns-then-not-branch : goal.returns-then-not-branch
returns-then-not-branch g c = λ all has.
    let i = c.loop-number.invariant all has in
    let none : c.in_ok-next_row.field-0 ≡ false = search rules in
    rows_end (AnswersField (goal.F-post g) c.args.read.now) c.args.first _ all _ _ _ i.2 (rw none at (c.in_ok-next_row.ensures.ok i.0 i.1)) c.into_grid.result c.into_grid.ensures.rows c.into_grid.ensures.order

pub returns-in_err-push_fields : goal.returns-in_err-push_fields
returns-in_err-push_fields g c = λ all has.
    let i = c.loop-number.invariant all has in
    let found : c.in_ok-next_row.field-0 ≡ true = search rules in
    let t = rw found at (c.in_ok-next_row.ensures.ok i.0 i.1) in
    let p = err_from_is_err_and c.from_residual-in_err-push_fields.result c.from_residual-in_err-push_fields.ensures.1 in
    rw (p.1, p.2) (rows_bad (AnswersField (goal.F-post g) c.args.read.now) c.args.first _ all _ _ _ _ _ i.2 t.first _ c.in_err-push_fields.ensures)

pub returns-in-Err-Ragged : goal.returns-in-Err-Ragged
returns-in-Err-Ragged g c = λ all has.
    let i = c.loop-number.invariant all has in
    let found : c.in_ok-next_row.field-0 ≡ true = search rules in
    let t = rw found at (c.in_ok-next_row.ensures.ok i.0 i.1) in
    let ragged = rw c.in-Err-Ragged.field-0-is at c.in-Err-Ragged.ensures in
    inr (rows_ragged (AnswersField (goal.F-post g) c.args.read.now) c.args.first _ all _ _ _ _ _ i.2 t.first _ c.in_ok-push_fields.ensures _ _ _ ragged.0)

pub loop-number-preserved : goal.loop-number-preserved
loop-number-preserved g c = λ all has.
    let i = c.loop-number.invariant all has in
    let found : c.in_ok-next_row.field-0 ≡ true = search rules in
    let t = rw found at (c.in_ok-next_row.ensures.ok i.0 i.1) in
    (t.later, t.leaves, rows_next (AnswersField (goal.F-post g) c.args.read.now) c.args.first _ all _ _ _ _ _ i.2 t.first _ c.in_ok-push_fields.ensures t.some _ c.in-Ok.ensures)
