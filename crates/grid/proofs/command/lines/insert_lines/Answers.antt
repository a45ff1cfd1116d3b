use Rattle.std.proofs.Common.{◌≡◌, ◌∙◌, None, rules}
use Rattle.grid.proofs.Common.{items_of_each, row_count, col_count, insert_all, lines_refusal}
use Rattle.grid.proofs.Lemmas.{done_rows, done_reply, done_edit, refused_edit, insert_all_memory}
use Rattle.grid.proofs.command.lines.insert_lines.Goals.{in-Ok, in-Err}
use Rattle.grid.proofs.command.lines.insert_lines.Goals as goal

pub returns-in-Some : goal.returns-in-Some
returns-in-Some g c =
    refused_edit _ _ _ c.args.grid.now c.in-Some.refusal
    (rw (← c.as_slice.ensures.value, ← c.size-rows.ensures.rows, ← c.size-rows.ensures.cols, ← c.lines_refusal.ensures) c.in-Some.is)

pub returns : goal.returns
returns g c =
    let t = c.args.grid.now.rows in
    let ls = items_of_each c.args.several.items in
    let none : lines_refusal (row_count t) (col_count t) c.args.at ls ≡ None =
    rw (← c.as_slice.ensures.value, ← c.size-rows.ensures.rows, ← c.size-rows.ensures.cols, ← c.lines_refusal.ensures) c.in_default.is in
    elim c.match-insert_rows.branch [
      | in-Ok w ↦
          rw w.result-is
          (done_edit _ _ _ _ _ _ (λ d known. w.in-Ok.ensures.rows ∙ done_rows d (insert_all c.args.at ls) t none) (done_reply (insert_all c.args.at ls) t none) c.insert_rows.ensures.order)
      | in-Err w ↦
          rw w.result-is
          record { rows = tt; reply = tt; order = c.insert_rows.ensures.order; err_grid = (search rules); err_memory = insert_all_memory c.args.at c.args.several.items t (λ e. cc (w.in-Err.ensures.fails.none e)) none }
    ]
