use Rattle.grid.proofs.Common.{holds}
use Rattle.grid.proofs.Lemmas.{flip_rows_by_lines, flip_rows_by_each}
use Rattle.grid.proofs.symmetry.flip_stored.Goals as goal

pub returns-in-RowMajor-clause-rows : goal.returns-in-RowMajor-clause-rows
returns-in-RowMajor-clause-rows g c = rw c.in-RowMajor.is (flip_rows_by_lines _ _ _ _ (holds c.args.layout _ c.requires) c.reverse_lines.ensures.moved)

pub returns-in-ColumnMajor-clause-rows : goal.returns-in-ColumnMajor-clause-rows
returns-in-ColumnMajor-clause-rows g c = rw c.in-ColumnMajor.is (flip_rows_by_each _ _ _ _ (holds c.args.layout _ c.requires) c.reverse_each_line.ensures.moved)
