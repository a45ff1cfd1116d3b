use Rattle.std.proofs.Common.{rules, arith}
use Rattle.grid.proofs.Lemmas.{rows_next, rows_done}
use Rattle.grid.proofs.grid.Grid.swap_cells_of_rows.Goals as goal

pub loop-col-preserved : goal.loop-col-preserved
loop-col-preserved g c =
    rows_next c.args.a c.args.b c.loop-col.col c.args.self.now c.loop-col.self c.loop-col.invariant c.requires.a_in c.requires.b_in c.swap.new.self (omega arith)
    c.swap.ensures.rows c.swap.ensures.same.rows c.swap.ensures.same.cols c.swap.ensures.same.order

pub returns-clause-rows : goal.returns-clause-rows
returns-clause-rows g c = rows_done c.args.a c.args.b c.loop-col.col c.args.self.now c.loop-col.self c.loop-col.invariant c.requires.a_in c.requires.b_in (omega arith)

pub returns-clause-same : goal.returns-clause-same
returns-clause-same g c = record { rows = search rules; cols = search rules; order = search rules }
