use Rattle.std.proofs.Common.{◌≡◌, Some, None, if◌then◌else◌, ◌∙◌, rules}
use Rattle.grid.proofs.Common.{pad_refusal}
use Rattle.grid.proofs.Lemmas.{refused_edit, pad_none, padded_rows, padded_reply}
use Rattle.grid_base.specs.Table.{row_count, col_count}
use Rattle.grid.proofs.command.lines.pad_lines.Goals.{then-at_end, else-at_end}
use Rattle.grid.proofs.command.lines.pad_lines.Goals as goal

pub returns-in-Some-clause-edited : goal.returns-in-Some-clause-edited
returns-in-Some-clause-edited g c =
    let t = c.args.grid.now.rows in
    let some : pad_refusal (row_count t) (col_count t) c.args.count ≡ Some c.in-Some.refusal = rw (← c.size-rows.ensures.rows, ← c.size-rows.ensures.cols, ← c.pad_refusal.ensures) c.in-Some.is in
    refused_edit _ _ _ c.args.grid.now c.in-Some.refusal (pad_none _ c.args.at_end _ _ c.args.count ∙ some)

pub returns-in-Ok-clause-edited : goal.returns-in-Ok-clause-edited
returns-in-Ok-clause-edited g c =
    let t = c.args.grid.now.rows in
    let place : c.if-at_end.at ≡ (if c.args.at_end then row_count t else 0) =
    elim c.if-at_end.branch [
      | then-at_end w ↦ rw w.if-at_end.true (w.at-is ∙ c.size-rows.ensures.rows)
      | else-at_end w ↦ rw w.if-at_end.false w.at-is
    ] in
    let none : pad_refusal (row_count t) (col_count t) c.args.count ≡ None = rw (← c.size-rows.ensures.rows, ← c.size-rows.ensures.cols, ← c.pad_refusal.ensures) c.in_default.is in
    record {
      rows = λ d one. padded_rows d _ c.args.at_end _ c.args.count t _ place c.in-Ok.ensures.padded one none;
      reply = λ same. padded_reply c.args.at_end c.args.count t none;
      order = (search rules);
      err_grid = tt;
      err_memory = tt;
    }
