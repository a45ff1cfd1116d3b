-- One line more: a row, or the first that is none.
use Rattle.std.proofs.Common.{◌≡◌, ◌<◌, inr, length, rules}
use Rattle.grid_text.proofs.Common.{err_from_is_err_and}
use Rattle.grid_text.proofs.Lemmas.{lines_start, lines_more, lines_bad, lines_ragged, lines_end}
use Rattle.grid_text.proofs.read.read_lines.Goals as goal

pub loop-rest-init : goal.loop-rest-init
loop-rest-init g c = record { utf8 = c.utf8.text; lines = lines_start _ _ _ _ _ c.new-rows.ensures }

pub is_empty-requires-text-self : goal.is_empty-requires-text-self
is_empty-requires-text-self g c κs = c.loop-rest.invariant.utf8

pub returns-in_err-read : goal.returns-in_err-read
returns-in_err-read g c =
    let some : 0 < length c.loop-rest.rest.now = search rules in
    let p = err_from_is_err_and c.from_residual.result c.from_residual.ensures.1 in
    rw (p.1, p.2) (record { read = lines_bad _ _ _ _ _ _ _ c.loop-rest.invariant.lines some _ c.cut_line.ensures.line _ c.in_err-read.ensures })

pub returns-in-Err-Ragged : goal.returns-in-Err-Ragged
returns-in-Err-Ragged g c =
    let some : 0 < length c.loop-rest.rest.now = search rules in
    let ragged = rw c.in-Err-Ragged.field-0-is at c.in-Err-Ragged.ensures in
    rw c.in-Err-Ragged.field-0-is (record { read = inr (lines_ragged _ _ _ _ _ _ _ c.loop-rest.invariant.lines some _ c.cut_line.ensures.line _ c.in_ok-read.ensures _ _ _ ragged.0) })

pub loop-rest-preserved : goal.loop-rest-preserved
loop-rest-preserved g c =
    let some : 0 < length c.loop-rest.rest.now = search rules in
    record {
      utf8 = c.cut_line.ensures.utf8;
      lines = lines_more _ _ _ _ _ _ _ c.loop-rest.invariant.lines some _ c.cut_line.ensures.line _ c.in_ok-read.ensures _ c.cut_line.ensures.rest _ c.in-Ok.ensures;
    }

pub returns : goal.returns
returns g c =
    let none : length c.loop-rest.rest.now ≡ 0 = search rules in
    record { read = (c.into_grid.ensures.order, (_, lines_end _ _ _ _ _ _ _ c.loop-rest.invariant.lines none, c.into_grid.ensures.rows)) }
