use Rattle.std.proofs.Common.{◌∙◌}
use Rattle.grid.proofs.Lemmas.{done_edit, pushed_edit, removed_rows, removed_reply, popped_rows, popped_reply, range_rows, range_reply, delete_rows_one, delete_reply_one}
use Rattle.grid.proofs.command.lines.edit_rows.Goals as goal

pub returns-in-Push-clause-edited : goal.returns-in-Push-clause-edited
returns-in-Push-clause-edited g c =
    rw c.in-Push.is (pushed_edit _ _ _ c.in-Push.line.items _ _ _ c.size-rows.ensures.rows c.insert_line.ensures)

pub returns-in_ok-pop_row-in-Pop-clause-edited : goal.returns-in_ok-pop_row-in-Pop-clause-edited
returns-in_ok-pop_row-in-Pop-clause-edited g c =
    let w = c.in_ok-pop_row-in-Pop in
    rw c.in-Pop.is (done_edit _ _ _ _ _ _ (λ d known. w.ensures.rows ∙ popped_rows d _) (popped_reply _ w.field-0 w.ensures.line) c.pop_row.ensures.order)

pub returns-in_ok-remove_row-in-Remove-clause-edited : goal.returns-in_ok-remove_row-in-Remove-clause-edited
returns-in_ok-remove_row-in-Remove-clause-edited g c =
    let w = c.in_ok-remove_row-in-Remove in
    rw c.in-Remove.is (done_edit _ _ _ _ _ _ (λ d known. w.ensures.rows ∙ removed_rows d c.in-Remove.at _) (removed_reply c.in-Remove.at _ w.field-0 w.ensures.line) c.remove_row.ensures.order)

pub returns-in-Delete-clause-edited : goal.returns-in-Delete-clause-edited
returns-in-Delete-clause-edited g c =
    let w = c.delete_rows_counted.ensures in
    rw c.in-Delete.is
    (done_edit _ _ _ _ _ _
    (λ d known. w.rows ∙ (range_rows d _ _ _ _ w.found ∙ delete_rows_one d c.in-Delete.at _))
    (range_reply _ _ _ _ w.found ∙ delete_reply_one c.in-Delete.at _) w.order)

pub returns-in-DeleteRange-clause-edited : goal.returns-in-DeleteRange-clause-edited
returns-in-DeleteRange-clause-edited g c =
    let w = c.delete_rows_counted-in-DeleteRange.ensures in
    rw c.in-DeleteRange.is
    (done_edit _ _ _ _ _ _ (λ d known. w.rows ∙ range_rows d _ _ _ _ w.found) (range_reply _ _ _ _ w.found) w.order)

pub returns-in-InsertAll-clause-edited : goal.returns-in-InsertAll-clause-edited
returns-in-InsertAll-clause-edited g c = rw c.in-InsertAll.is c.insert_lines.ensures
