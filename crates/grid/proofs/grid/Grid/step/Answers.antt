use Rattle.std.proofs.Common.{◌≡◌, ◌≤◌, sym, ◌∙◌, ap, arith, rules}
use Rattle.grid.proofs.Common.{row_count, col_count, half, price, price_within_half, command_value, lines, edit_value, request_value}
use Rattle.grid.proofs.Lemmas.{stepped_edit}
use Rattle.grid_commands.specs.declared.command.Axis.TheVariants.{Row, Col}
use Rattle.grid.proofs.grid.Grid.step.Goals as goal

pub returns-in-Apply-clause-half : goal.returns-in-Apply-clause-half
returns-in-Apply-clause-half g c =
    let rows = row_count c.args.self.now.rows in
    let cols = col_count c.args.self.now.rows in
    let within : price c.in-Apply.symmetry rows cols ≤ half rows cols = price_within_half c.in-Apply.symmetry rows cols in
    omega (arith, c.apply_counted.ensures.symmetry, within)

pub returns-in-Lines-Row-default-clause-stepped : goal.returns-in-Lines-Row-default-clause-stepped
returns-in-Lines-Row-default-clause-stepped g c =
    let w = c.in-Lines-Row-default in
    let says : command_value c.args.command ≡ lines Row (edit_value w.edit) =
    sym c.request_of.ensures ∙ (ap request_value w.is ∙ ap (λ a. lines a (edit_value w.edit)) w.field-0-is) in
    rw says (stepped_edit c.edit_rows.ensures.edited)

pub returns-in-Lines-Col-default-clause-stepped : goal.returns-in-Lines-Col-default-clause-stepped
returns-in-Lines-Col-default-clause-stepped g c =
    let w = c.in-Lines-Col-default in
    let says : command_value c.args.command ≡ lines Col (edit_value w.edit) =
    sym c.request_of.ensures ∙ (ap request_value w.is ∙ ap (λ a. lines a (edit_value w.edit)) w.field-0-is) in
    rw says (stepped_edit c.edit_cols.ensures.edited)

pub returns-in-Apply-clause-counted : goal.returns-in-Apply-clause-counted
returns-in-Apply-clause-counted = search rules
