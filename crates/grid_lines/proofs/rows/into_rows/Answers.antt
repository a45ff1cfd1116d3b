-- One more row has its cells.
use Rattle.std.proofs.Common.{arith}
use Rattle.grid_lines.proofs.CopyLemmas.{unpacking_more}
use Rattle.grid_lines.proofs.rows.into_rows.Goals as goal

pub loop-row-preserved : goal.loop-row-preserved
loop-row-preserved g c = unpacking_more c.args.grid.rows c.args.grid.table c.loop-row.row c.size-count.result.1 c.loop-row.rows.items _ _ c.fill_row.new.row c.loop-row.invariant (omega arith) c.size-count.ensures.cols c.fill_row.ensures.row c.fill_row.ensures.rest
