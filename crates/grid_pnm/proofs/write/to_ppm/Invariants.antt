-- The samples so far, before those of the rows that are left.
use Rattle.std.proofs.Common.{◌++◌, ℕ, List}
use Rattle.grid_base.proofs.Common.{AllZip, concat_rows}
use Rattle.grid_pnm.specs.Writing.{AnswersColor, MayDrawColors}
use Rattle.grid_pnm.proofs.write.to_ppm.Given as goal

abbrev pub invariant-loop-row : goal.invariant-loop-row
invariant-loop-row g l =
    (later : List (List ℕ)) → AllZip (AnswersColor (goal.F-post g) l.write) (concat_rows l.row-iterator) later → MayDrawColors (AnswersColor (goal.F-post g) l.write) (g.V.AsView.rows l.fn.board) (l.bytes.items ++ concat_rows later)
