-- One record more.
use Rattle.std.proofs.Common.{ap, ◌∙◌, ◌≡◌, [], subst, string_bytes}
use Rattle.std.specs.List.{AllZip}
use Rattle.grid_csv.proofs.Common.{HasWritten, AnswersCell, IsCsv, sheet_text}
use Rattle.grid_csv.proofs.Lemmas.{sheet_utf8, ok_more, writer_start, written_text, sheet_more, records_utf8, field_is, lines_are, zip_start, zip_next, zip_end}
use Rattle.grid_csv.proofs.write.to_csv.Goals as goal

pub loop-row-init : goal.loop-row-init
loop-row-init g c =
    let from = c.from_writer-writer.ensures in
    let rows = c.into_iter-row-iterator.ensures.into_iter_gives ∙ c.iter_rows-row-items.ensures.gives.0 ∙ c.as_view.ensures in
    ([], zip_start (AllZip (AnswersCell (goal.F-post g) c.args.write)) _ _ rows, writer_start _ _ from.wtr c.new.ensures.items from.empty from.cfg from.fields from.wrote)

pub loop-row-preserved : goal.loop-row-preserved
loop-row-preserved g c =
    let (records, rows, has) = c.loop-row.invariant in
    (_, zip_next (AllZip (AnswersCell (goal.F-post g) c.args.write)) _ _ _ rows _ _ _ c.in-Some.ensures.steps c.in_ok-fill_record.ensures, subst (HasWritten c.write_record.new.writer) (sheet_more records _) (c.in_ok-write_record.ensures _ has))

pub text_of-requires : goal.text_of-requires
text_of-requires g c =
    let (records, rows, has) = c.loop-row.invariant in
    let all = zip_end (AllZip (AnswersCell (goal.F-post g) c.args.write)) _ _ _ rows c.in-None.ensures.steps.0 in
    (_, has, sheet_utf8 records (records_utf8 (goal.F-post g) c.args.write _ records all))

pub returns-clause-text : goal.returns-clause-text
returns-clause-text g c = λ h by.
    let (records, rows, has) = c.loop-row.invariant in
    let all = zip_end (AllZip (AnswersCell (goal.F-post g) c.args.write)) _ _ _ rows c.in-None.ensures.steps.0 in
    let is = lines_are (AnswersCell (goal.F-post g) c.args.write) h (field_is (goal.F-post g) c.args.write h by) _ records all in
    ok_more (λ text. string_bytes text ≡ sheet_text records) (λ text. IsCsv h [] (g.V.AsView.rows c.args.board.now) (string_bytes text)) (λ text e. record { is = e ∙ ap sheet_text is }) c.text_of.result (written_text _ _ _ has c.text_of.ensures)
