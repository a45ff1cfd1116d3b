-- What is answered of the header and of the records below it.
use Rattle.std.proofs.Common.{◌≡◌, ◌∙◌, inr, Ok, true, false, ap, refl, rules, sym}
use Rattle.grid_csv.proofs.Common.{err_from_is_err_and, AnswersField, first_of, records_of}
use Rattle.grid_csv.proofs.Lemmas.{cell_is, reading_below_is, below_bad_header, below_rows, header_names}
use Rattle.grid_csv.proofs.read.from_csv_with_header.Goals as goal

pub returns-then-not-branch-clause-header : goal.returns-then-not-branch-clause-header
returns-then-not-branch-clause-header g c =
    let none : c.in_ok-next_row.field-0 ≡ false = search rules in
    let no_records = rw none at (c.in_ok-next_row.ensures.ok _ c.reader_of-reader.ensures) in
    rw (no_records, c.new.ensures.items) refl

pub returns-then-not-branch-clause-answers : goal.returns-then-not-branch-clause-answers
returns-then-not-branch-clause-answers g c =
    let none : c.in_ok-next_row.field-0 ≡ false = search rules in
    let no_records = rw none at (c.in_ok-next_row.ensures.ok _ c.reader_of-reader.ensures) in
    inr (rw (no_records, c.empty.ensures.rows) (tt, c.empty.ensures.order))

pub returns-in_err-header-clause-answers : goal.returns-in_err-header-clause-answers
returns-in_err-header-clause-answers g c =
    let found : c.in_ok-next_row.field-0 ≡ true = search rules in
    let t = rw found at (c.in_ok-next_row.ensures.ok _ c.reader_of-reader.ensures) in
    let p = err_from_is_err_and c.from_residual-in_err-header.result c.from_residual-in_err-header.ensures.1 in
    rw (p.1, p.2) (below_bad_header (AnswersField (goal.F-post g) c.args.read) _ _ t.later t.first _ c.in_err-header.ensures)

pub returns-in_err-grid-clause-answers : goal.returns-in_err-grid-clause-answers
returns-in_err-grid-clause-answers g c =
    let found : c.in_ok-next_row.field-0 ≡ true = search rules in
    let t = rw found at (c.in_ok-next_row.ensures.ok _ c.reader_of-reader.ensures) in
    let p = err_from_is_err_and c.from_residual-in_err-grid.result c.from_residual-in_err-grid.ensures.1 in
    rw (p.1, p.2) (below_rows (AnswersField (goal.F-post g) c.args.read) _ _ t.later t.first _ _ c.in_ok-header.ensures c.len.ensures _ (rw c.with_cols-rows.ensures at (c.in_err-grid.ensures _ t.leaves)))

pub returns-clause-header : goal.returns-clause-header
returns-clause-header g c =
    let found : c.in_ok-next_row.field-0 ≡ true = search rules in
    let t = rw found at (c.in_ok-next_row.ensures.ok _ c.reader_of-reader.ensures) in
    header_names _ _ c.in_ok-header.ensures ∙ sym (ap first_of t.first)

pub returns-clause-answers : goal.returns-clause-answers
returns-clause-answers g c =
    let found : c.in_ok-next_row.field-0 ≡ true = search rules in
    let t = rw found at (c.in_ok-next_row.ensures.ok _ c.reader_of-reader.ensures) in
    below_rows (AnswersField (goal.F-post g) c.args.read) _ _ t.later t.first _ _ c.in_ok-header.ensures c.len.ensures (Ok c.in_ok-grid.grid) (rw c.with_cols-rows.ensures at (c.in_ok-grid.ensures _ t.leaves))

pub returns-then-not-branch-clause-reads : goal.returns-then-not-branch-clause-reads
returns-then-not-branch-clause-reads g c = λ h by. reading_below_is (AnswersField (goal.F-post g) c.args.read) h (cell_is (goal.F-post g) c.args.read h by) (records_of c.args.bytes.now) _ (returns-then-not-branch-clause-answers g c)

pub returns-in_err-header-clause-reads : goal.returns-in_err-header-clause-reads
returns-in_err-header-clause-reads g c = λ h by. reading_below_is (AnswersField (goal.F-post g) c.args.read) h (cell_is (goal.F-post g) c.args.read h by) (records_of c.args.bytes.now) _ (returns-in_err-header-clause-answers g c)

pub returns-in_err-grid-clause-reads : goal.returns-in_err-grid-clause-reads
returns-in_err-grid-clause-reads g c = λ h by. reading_below_is (AnswersField (goal.F-post g) c.args.read) h (cell_is (goal.F-post g) c.args.read h by) (records_of c.args.bytes.now) _ (returns-in_err-grid-clause-answers g c)

pub returns-clause-reads : goal.returns-clause-reads
returns-clause-reads g c = λ h by. reading_below_is (AnswersField (goal.F-post g) c.args.read) h (cell_is (goal.F-post g) c.args.read h by) (records_of c.args.bytes.now) _ (returns-clause-answers g c)
