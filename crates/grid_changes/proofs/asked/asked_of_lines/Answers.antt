use Rattle.std.proofs.Common.{◌-◌, false, refl, ap, ◌∙◌}
use Rattle.grid.proofs.Common.{IfOk-weaker}
use Rattle.grid.specs.Prelude.{read}
use Rattle.grid.proofs.LineEditLemmas.{read_kept}
use Rattle.grid_changes.proofs.AskedLemmas.{due_lines, read_replied, pushed_asked, popped_asked, deleted_asked}
use Rattle.grid_changes.proofs.asked.asked_of_lines.Goals as goal

pub returns-in_ok-read_line-in-Read-clause-asked : goal.returns-in_ok-read_line-in-Read-clause-asked
returns-in_ok-read_line-in-Read-clause-asked g c =
    let t = c.args.grid.now.rows in
    rw c.in-Read.is
    (due_lines _ _ c.args.axis (read c.in-Read.at) _ _ c.in_ok-read_line-in-Read.field-0 false refl
    (λ d known. read_kept d c.args.axis c.in-Read.at t)
    (λ same. c.in_ok-read_line-in-Read.ensures.reply same ∙ read_replied c.args.axis c.in-Read.at t) refl)

pub returns-in-Push-clause-asked : goal.returns-in-Push-clause-asked
returns-in-Push-clause-asked g c = rw c.in-Push.is (pushed_asked _ _ c.args.axis c.measure-count.result.0 c.in-Push.line.items _ c.put_line.result c.measure-count.ensures.count c.put_line.ensures)

pub returns-in-Pop-clause-asked : goal.returns-in-Pop-clause-asked
returns-in-Pop-clause-asked g c =
    rw c.in-Pop.is
    (IfOk-weaker c.take_line.result _ _
    (λ asked h. popped_asked _ _ c.args.axis c.saturating_sub.result _ asked (c.saturating_sub.ensures ∙ ap (λ n. n - 1) c.measure-count.ensures.count) h)
    c.take_line.ensures.asked)

pub returns-in-Delete-clause-asked : goal.returns-in-Delete-clause-asked
returns-in-Delete-clause-asked g c = rw c.in-Delete.is (deleted_asked _ _ c.args.axis c.in-Delete.at _ c.drop_lines.result c.drop_lines.ensures)
