use Rattle.grid.specs.Prelude.{act}
use Rattle.test_support.proofs.plain.storage.Goals as goal

pub returns-in_ok-columns-in-ColumnMajor : goal.returns-in_ok-columns-in-ColumnMajor
unfolding act
returns-in_ok-columns-in-ColumnMajor g c =
    rw c.in-ColumnMajor.is (rw c.in_ok-columns-in-ColumnMajor.ensures at c.joined_rows-in-ColumnMajor.ensures)
