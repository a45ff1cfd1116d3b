use Rattle.grid.proofs.Lemmas.{refused_edit}
use Rattle.grid.proofs.command.lines.insert_line.Goals as goal

pub returns-in-Some : goal.returns-in-Some
returns-in-Some g c =
    refused_edit _ _ _ c.args.grid.now c.in-Some.refusal (rw (← c.size-rows.ensures.rows, ← c.size-rows.ensures.cols, ← c.line_refusal.ensures) c.in-Some.is)
