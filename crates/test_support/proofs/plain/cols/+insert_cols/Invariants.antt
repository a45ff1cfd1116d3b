use Rattle.std.proofs.Common.{length}
use Rattle.test_support.proofs.plain.cols.+insert_cols.Given as goal

abbrev pub decreases-insert_cols : goal.decreases-insert_cols
decreases-insert_cols g l = length l.lines.now
