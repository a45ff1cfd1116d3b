use Rattle.std.proofs.Common.{rules, ◌≡◌, sym, ap, inr, is_some, None, arith}
use Rattle.grid.proofs.Common.{past_cols, cell_past_rows}
use Rattle.grid_base.specs.Table.{cell}
use Rattle.grid.proofs.grid.Grid.get_mut.Goals as goal
use Rattle.grid.proofs.grid.Grid.get_mut.Goals.{else-row-rows-via-then-row-rows+else-col-cols, else-row-rows-via-else-row-rows}

pub returns-else-row-rows : goal.returns-else-row-rows
returns-else-row-rows g c =
    let none : cell c.args.self.now.rows c.args.row c.args.col ≡ None =
    elim c.else-row-rows.branch [
      | else-row-rows-via-then-row-rows+else-col-cols w ↦ past_cols c.args.self.now.rows c.args.self.now.table c.args.row _ (omega (arith, w.if-col-cols.false, c.size-rows.ensures.cols))
      | else-row-rows-via-else-row-rows w ↦ cell_past_rows c.args.self.now.rows _ c.args.col (omega (arith, w.if-row-rows.false, c.size-rows.ensures.rows))
    ] in
    let same : c.else-row-rows.self.0 ≡ c.args.self.now =
    elim c.else-row-rows.branch [
      | else-row-rows-via-then-row-rows+else-col-cols w ↦ ap (λ x. x.0) w.self-is
      | else-row-rows-via-else-row-rows w ↦ ap (λ x. x.0) w.self-is
    ] in
    (ap inr same, record { writes_back = tt; variant = sym (ap is_some none); item = tt; in_range = tt })

pub returns-then-col-cols : goal.returns-then-col-cols
returns-then-col-cols g c = search rules
