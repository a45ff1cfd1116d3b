-- The samples so far, before those of the cells that are left.
use Rattle.std.proofs.Common.{◌≡◌, ◌++◌, ℕ, List}
use Rattle.grid_base.proofs.Common.{AllZip, concat_rows}
use Rattle.grid_pnm.specs.Writing.{AnswersColor}
use Rattle.grid_pnm.proofs.write.push_colors.Given as goal

abbrev pub invariant-loop-cell : goal.invariant-loop-cell
invariant-loop-cell g l =
    (later : List (List ℕ)) → AllZip (AnswersColor (goal.F-post g) l.write) l.cell-iterator later → (colors : List (List ℕ)) × AllZip (AnswersColor (goal.F-post g) l.write) l.fn.row colors × (l.bytes.items ++ concat_rows later ≡ l.fn.bytes.items ++ concat_rows colors)
