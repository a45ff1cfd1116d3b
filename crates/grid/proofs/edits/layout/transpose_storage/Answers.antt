use Rattle.grid.proofs.Lemmas.{in_place_rows, in_place_cols}
use Rattle.grid.proofs.edits.layout.transpose_storage.Goals as goal

pub returns-in-RowMajor-clause-table : goal.returns-in-RowMajor-clause-table
returns-in-RowMajor-clause-table g c = rw c.in-RowMajor.is (in_place_rows _ _ _ _ c.requires.cells c.transpose_in_place.ensures)

pub returns-in-ColumnMajor-clause-table : goal.returns-in-ColumnMajor-clause-table
returns-in-ColumnMajor-clause-table g c = rw c.in-ColumnMajor.is (in_place_cols _ _ _ _ c.requires.cells c.transpose_in_place-in-ColumnMajor.ensures)
