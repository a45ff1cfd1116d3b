use Rattle.grid_near.proofs.Common.{MarksCells}
use Rattle.grid_near.proofs.counts.mark_cells.Given as goal

abbrev pub invariant-loop-k : goal.invariant-loop-k
invariant-loop-k g l = MarksCells l.fn.blank (λ h x b. goal.F-post g h x b) l.fn.board.mark.now l.fn.board.cells.now l.start l.k l.marks
