use Rattle.std.proofs.Common.{◌<◌, ◌≤◌, true, false, refl, ◌∙◌, arith}
use Rattle.grid.specs.Prelude.{line_count, row_count, col_count, remove_at}
use Rattle.grid_changes.proofs.AskedLemmas.{due_lines, rows-lines, line_taken, line_kept, line_replied, line_step, line_no_step}
use Rattle.grid_changes.proofs.asked.take_line.Goals as goal

pub returns-then-at-measure-clause-asked : goal.returns-then-at-measure-clause-asked
returns-then-at-measure-clause-asked g c =
    let t = c.args.grid.now.rows in
    let lt : c.args.at < line_count c.args.axis (row_count t) (col_count t) = omega (arith, c.if-at-measure.true, c.measure.ensures.count) in (
      record { some = omega arith; within = omega (arith, rows-lines c.args.axis t, lt) },
      due_lines _ _ c.args.axis (remove_at c.args.at) _ _ c.in_ok-reply.reply true refl
          (λ d known. line_taken d c.args.axis c.args.at t c.args.grid.now.table)
          (λ same. c.in_ok-reply.ensures.reply same ∙ line_replied c.args.axis c.args.at t)
          (line_step c.args.axis c.args.at t lt),
    )

pub returns-else-at-measure-clause-asked : goal.returns-else-at-measure-clause-asked
returns-else-at-measure-clause-asked g c =
    let t = c.args.grid.now.rows in
    let le : line_count c.args.axis (row_count t) (col_count t) ≤ c.args.at = omega (arith, c.if-at-measure.false, c.measure.ensures.count) in
    due_lines _ _ c.args.axis (remove_at c.args.at) _ _ c.in_ok-reply.reply false refl
    (λ d known. line_kept d c.args.axis c.args.at t c.args.grid.now.table le)
    (λ same. c.in_ok-reply.ensures.reply same ∙ line_replied c.args.axis c.args.at t)
    (line_no_step c.args.axis c.args.at t le)
