use Rattle.std.proofs.Common.{◌≡◌, Some, [], sym, ◌∙◌, ap, arith}
use Rattle.grid.proofs.Common.{slice_get-get_or}
use Rattle.grid.specs.Prelude.{line_count, row_count, col_count, line_is, line_at}
use Rattle.grid_changes.proofs.AskedLemmas.{line_past, col_there}
use Rattle.grid_changes.proofs.asked.read_line.Goals.{in-Row, in-Col}
use Rattle.grid_changes.proofs.asked.read_line.Goals as goal

pub returns-then-at-count-clause-reply : goal.returns-then-at-count-clause-reply
returns-then-at-count-clause-reply g c same = ap line_is (line_past c.args.axis c.args.at c.args.grid.now.rows (omega (arith, c.if-at-count.true, c.measure-count.ensures.count)))

pub returns-clause-reply : goal.returns-clause-reply
returns-clause-reply g c same =
    let t = c.args.grid.now.rows in
    let there : Some c.match-axis.line ≡ line_at c.args.axis c.args.at t =
    elim c.match-axis.branch [
      | in-Row w ↦
          let count = ap (λ a. line_count a (row_count t) (col_count t)) w.in-Row.is in
          rw (w.in-Row.is, w.line-is, w.iter_row-line.ensures.gives.0) (sym (slice_get-get_or t c.args.at [] (omega (arith, c.if-at-count.false, c.measure-count.ensures.count, count))))
      | in-Col w ↦
          let count = ap (λ a. line_count a (row_count t) (col_count t)) w.in-Col.is in
          rw (w.in-Col.is, w.line-is, w.iter_col-line.ensures.gives.0) (col_there c.args.at t (omega (arith, c.if-at-count.false, c.measure-count.ensures.count, count)))
    ] in
    ap line_is (ap Some (c.in_ok-cells.ensures.equal same) ∙ there)
