use Rattle.std.proofs.Common.{◌≡◌, ◌<◌, [], ◌∷◌, length, None, Some, true, refl, sym, ◌∙◌, ap, subst, arith}
use Rattle.grid.specs.Prelude.{line_count, line_width, row_count, col_count, insert_at, lines_refusal}
use Rattle.grid_commands.specs.declared.command.Reply.TheVariants as the
use Rattle.grid_changes.specs.Change.{FitsLines, with_lines}
use Rattle.grid_changes.proofs.AskedLemmas.{due_lines, refused_due, lines_fit, put_fits, put_rows, put_replied, one_rows, one_replied, one_line, one_step}
use Rattle.grid_changes.proofs.asked.put_line.Goals as goal

pub returns-in-Some : goal.returns-in-Some
returns-in-Some g c =
    let t = c.args.grid.now.rows in
    let some : lines_refusal (line_count c.args.axis (row_count t) (col_count t)) (line_width c.args.axis (row_count t) (col_count t)) c.args.at (c.args.line.items ∷ []) ≡ Some c.in-Some.refusal =
    rw (← c.measure-count.ensures.count, ← c.measure-count.ensures.width, ← c.line_refusal.ensures) c.in-Some.is in
    refused_due _ _ c.args.axis (insert_at c.args.at c.args.line.items) _ c.in-Some.refusal some

pub returns-in-None : goal.returns-in-None
returns-in-None g c =
    let t = c.args.grid.now.rows in
    let table = c.args.grid.now.table in
    let line = c.args.line.items in
    let none : lines_refusal (line_count c.args.axis (row_count t) (col_count t)) (line_width c.args.axis (row_count t) (col_count t)) c.args.at (line ∷ []) ≡ None =
    rw (← c.measure-count.ensures.count, ← c.measure-count.ensures.width, ← c.line_refusal.ensures) c.in-None.is in
    let some : 0 < length line = (lines_fit c.args.axis c.args.at (line ∷ []) t table none).new.nonempty 0 (omega arith) in
    let wide : col_count c.from_vec.result.rows ≡ length line = omega (arith, c.from_vec.ensures.cols (λ e. omega (arith, e, some)), c.len-len.ensures) in
    let is : c.from_vec.result.rows ≡ line ∷ [] = one_line line c.from_vec.result.rows c.from_vec.result.table some c.from_vec.ensures.storage wide in
    let fits : FitsLines c.args.axis c.args.at c.from_vec.result.rows t = subst (λ v. FitsLines c.args.axis c.args.at v t) (sym is) (put_fits c.args.axis c.args.at (line ∷ []) t table none (omega arith)) in (
      fits,
      due_lines _ _ c.args.axis (insert_at c.args.at line) _ _ the.Done true refl
          (λ d known. ap (λ v. with_lines c.args.axis c.args.at v t) is ∙ (put_rows c.args.axis c.args.at (line ∷ []) t table none d ∙ one_rows d c.args.axis c.args.at line t))
          (λ same. put_replied c.args.axis c.args.at (line ∷ []) t table none ∙ one_replied c.args.axis c.args.at line t)
          (one_step c.args.axis c.args.at line t none),
    )
