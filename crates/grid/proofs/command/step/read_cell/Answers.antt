use Rattle.std.proofs.Common.{sym, ◌∙◌}
use Rattle.grid.proofs.Lemmas.{get_past}
use Rattle.grid.proofs.command.step.read_cell.Goals as goal

pub returns-then-not-has_cell-clause-reply : goal.returns-then-not-has_cell-clause-reply
returns-then-not-has_cell-clause-reply g c =
    λ _. get_past c.args.grid.now.rows c.args.grid.now.table c.args.row c.args.col (sym c.has_cell.ensures ∙ c.if-not-has_cell.true)
