use Rattle.std.proofs.Common.{sym, arith}
use Rattle.grid_base.proofs.ShiftLemmas.{back_end}
use Rattle.grid_base.proofs.flat.counted.shifts.move_back.Goals as goal

pub returns-then-n-eq0-clause-cells : goal.returns-then-n-eq0-clause-cells
returns-then-n-eq0-clause-cells g c = sym (back_end c.args.start c.args.shift c.args.n c.args.cells.now (omega (arith, c.if-n-eq0.true)))
