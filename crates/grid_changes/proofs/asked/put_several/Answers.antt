use Rattle.std.proofs.Common.{◌≡◌, ◌<◌, [], length, None, Some, true, false, refl, sym, ◌∙◌, ap, subst, arith}
use Rattle.grid.proofs.Common.{length-map, nil_from_length}
use Rattle.grid.specs.Prelude.{line_count, line_width, row_count, col_count, insert_all, items_of_each, lines_refusal}
use Rattle.grid_commands.specs.declared.command.Reply.TheVariants as the
use Rattle.grid_changes.specs.Change.{FitsLines, with_lines}
use Rattle.grid_changes.proofs.AskedLemmas.{due_lines, refused_due, lines_fit, put_fits, put_rows, put_replied, nothing_put, nothing_no_step, several_step, joined_lines}
use Rattle.grid_changes.proofs.asked.put_several.Goals as goal

pub returns-in-Some-clause-asked : goal.returns-in-Some-clause-asked
returns-in-Some-clause-asked g c =
    let t = c.args.grid.now.rows in
    let ls = items_of_each c.args.several.items in
    let some : lines_refusal (line_count c.args.axis (row_count t) (col_count t)) (line_width c.args.axis (row_count t) (col_count t)) c.args.at ls ≡ Some c.in-Some.refusal =
    rw (← c.as_slice.ensures.value, ← c.measure-count.ensures.count, ← c.measure-count.ensures.width, ← c.lines_refusal.ensures) c.in-Some.is in
    refused_due _ _ c.args.axis (insert_all c.args.at ls) _ c.in-Some.refusal some

pub returns-then-len-eq0-clause-asked : goal.returns-then-len-eq0-clause-asked
returns-then-len-eq0-clause-asked g c =
    let t = c.args.grid.now.rows in
    let table = c.args.grid.now.table in
    let ls = items_of_each c.args.several.items in
    let none : lines_refusal (line_count c.args.axis (row_count t) (col_count t)) (line_width c.args.axis (row_count t) (col_count t)) c.args.at ls ≡ None =
    rw (← c.as_slice.ensures.value, ← c.measure-count.ensures.count, ← c.measure-count.ensures.width, ← c.lines_refusal.ensures) c.in_default.is in
    let empty : ls ≡ [] = nil_from_length ls (length-map c.args.several.items (λ v. v.items) ∙ omega (arith, c.if-len-eq0.true, c.len.ensures)) in
    due_lines _ _ c.args.axis (insert_all c.args.at ls) _ _ the.Done false refl
    (λ d known. nothing_put d c.args.axis c.args.at ls t table none empty)
    (λ same. put_replied c.args.axis c.args.at ls t table none)
    (nothing_no_step c.args.axis c.args.at ls t empty)

pub returns-in-Ok-clause-asked : goal.returns-in-Ok-clause-asked
returns-in-Ok-clause-asked g c =
    let t = c.args.grid.now.rows in
    let table = c.args.grid.now.table in
    let ls = items_of_each c.args.several.items in
    let none : lines_refusal (line_count c.args.axis (row_count t) (col_count t)) (line_width c.args.axis (row_count t) (col_count t)) c.args.at ls ≡ None =
    rw (← c.as_slice.ensures.value, ← c.measure-count.ensures.count, ← c.measure-count.ensures.width, ← c.lines_refusal.ensures) c.in_default.is in
    let count : length ls ≡ length c.args.several.items = length-map c.args.several.items (λ v. v.items) in
    let some : 0 < row_count ls = omega (arith, count, c.if-len-eq0.false, c.len.ensures) in
    let is : c.in-Ok.lines.rows ≡ ls = joined_lines ls c.in-Ok.lines.rows (lines_fit c.args.axis c.args.at ls t table none).new some c.in-Ok.ensures.2 in
    let fits : FitsLines c.args.axis c.args.at c.in-Ok.lines.rows t = subst (λ v. FitsLines c.args.axis c.args.at v t) (sym is) (put_fits c.args.axis c.args.at ls t table none some) in (
      fits,
      due_lines _ _ c.args.axis (insert_all c.args.at ls) _ _ the.Done true refl
          (λ d known. ap (λ v. with_lines c.args.axis c.args.at v t) is ∙ put_rows c.args.axis c.args.at ls t table none d)
          (λ same. put_replied c.args.axis c.args.at ls t table none)
          (several_step c.args.axis c.args.at ls t some none),
    )
