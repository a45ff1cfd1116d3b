-- The samples so far, before those of the rows that are left.
use Rattle.std.proofs.Common.{◌++◌, ℕ, List}
use Rattle.grid_base.proofs.Common.{AllZip, concat_rows}
use Rattle.grid_pnm.specs.Writing.{AnswersCell, MayDrawGrays}
use Rattle.grid_pnm.proofs.write.to_pgm.Given as goal

abbrev pub invariant-loop-row : goal.invariant-loop-row
invariant-loop-row g l =
    (later : List ℕ) → AllZip (AnswersCell (goal.F-post g) l.write) (concat_rows l.row-iterator) later → MayDrawGrays (AnswersCell (goal.F-post g) l.write) (g.V.AsView.rows l.fn.board) (l.bytes.items ++ later)
