use Rattle.grid.proofs.Lemmas.{either_way, twice_across, cols_kept, cols_split}
use Rattle.grid.proofs.grid.Grid.split_off_cols.Goals as goal

pub returns-clause-rows : goal.returns-clause-rows
returns-clause-rows g c =
    cols_kept c.args.at c.args.self.now.rows c.transpose.new.self.rows c.args.self.now.table c.requires.point c.transpose.ensures.rows _ _ c.transpose-2.ensures.rows c.in_ok-tail.ensures.rows

pub returns-clause-tail : goal.returns-clause-tail
returns-clause-tail g c =
    cols_split c.args.at c.args.self.now.rows c.transpose.new.self.rows c.args.self.now.table c.requires.point c.transpose.ensures.rows _ _ c.transpose-3.ensures.rows c.in_ok-tail.ensures.tail

pub returns-in_err-tail-clause-err : goal.returns-in_err-tail-clause-err
returns-in_err-tail-clause-err g c =
    either_way c.from_residual.result (twice_across _ _ _ _ c.args.self.now.table c.transpose.ensures.rows c.transpose.ensures.order c.in_err-tail.ensures.err c.transpose-2.ensures.rows c.transpose-2.ensures.order)
