use Rattle.grid_near.proofs.Lemmas.{counting_takes, counting_yes, counting_no, counting_ended}
use Rattle.grid_near.proofs.count.count_near.Goals as goal

pub test-requires : goal.test-requires
test-requires g c =
    counting_takes (goal.F-pre g) (goal.F-post g) c.args.test c.args.near c.loop-cell.cell-iterator c.next.new.self c.loop-cell.count
    c.in-Some.field-0-0 c.in-Some.cell c.in-Some.ensures.steps c.loop-cell.invariant.2

pub loop-cell-preserved-then-test : goal.loop-cell-preserved-then-test
loop-cell-preserved-then-test g c =
    (tt, tt, counting_yes (goal.F-pre g) (goal.F-post g) c.args.test c.args.near c.loop-cell.cell-iterator c.next.new.self c.loop-cell.count c.in-Some.field-0-0 c.in-Some.cell c.in-Some.ensures.steps c.loop-cell.invariant.2 c.if-test.ensures)

pub loop-cell-preserved : goal.loop-cell-preserved
loop-cell-preserved g c =
    (tt, tt, counting_no (goal.F-pre g) (goal.F-post g) c.args.test c.args.near c.loop-cell.cell-iterator c.next.new.self c.loop-cell.count c.in-Some.field-0-0 c.in-Some.cell c.in-Some.ensures.steps c.loop-cell.invariant.2 c.if-test.ensures)

pub returns-clause-count : goal.returns-clause-count
returns-clause-count g c =
    counting_ended (goal.F-pre g) (goal.F-post g) c.args.test c.args.near c.loop-cell.cell-iterator c.loop-cell.count c.in-None.ensures.steps.0 c.loop-cell.invariant.2
