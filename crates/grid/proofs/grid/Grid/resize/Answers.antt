-- The empty table, the first rows and columns, or a new table.
use Rattle.std.proofs.Common.{arith, rules}
use Rattle.grid.proofs.Common.{on_ok_weaker, IsResized}
use Rattle.grid.proofs.Lemmas.{corner_resized, resizes_to}
use Rattle.grid.proofs.grid.Grid.resize.Goals as goal

pub returns-then-rows-eq0-clause-resized : goal.returns-then-rows-eq0-clause-resized
returns-then-rows-eq0-clause-resized g c =
    let resized : IsResized g.T.Default.is_default c.args.rows c.args.cols c.args.self.now.rows c.clear.new.self.rows = search rules in
    resizes_to _ _ _ _ _ c.args.self.now.table c.clear.new.self.table resized

pub returns-then-cols-old_cols-clause-resized : goal.returns-then-cols-old_cols-clause-resized
returns-then-cols-old_cols-clause-resized g c =
    let resized = corner_resized g.T.Default.is_default c.args.rows c.args.cols c.args.self.now.rows c.shrink.new.self.rows (omega arith) (omega arith) (omega arith) (omega arith) c.shrink.ensures.corner in
    resizes_to _ _ _ _ _ c.args.self.now.table c.shrink.new.self.table resized

pub returns-clause-resized : goal.returns-clause-resized
returns-clause-resized g c =
    on_ok_weaker c.resize_anew.result (λ resized. resizes_to _ _ _ _ _ c.args.self.now.table c.resize_anew.new.self.table resized) c.resize_anew.ensures.resized
