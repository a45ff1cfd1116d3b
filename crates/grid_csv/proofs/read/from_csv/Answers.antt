-- What is answered of the records.
use Rattle.grid_csv.proofs.Common.{AnswersField}
use Rattle.grid_csv.proofs.Lemmas.{cell_is, reading_is}
use Rattle.grid_csv.proofs.read.from_csv.Goals as goal

pub returns-clause-answers : goal.returns-clause-answers
returns-clause-answers g c = rw c.new-rows.ensures at (c.read_records.ensures _ c.reader_of-reader.ensures)

pub returns-clause-reads : goal.returns-clause-reads
returns-clause-reads g c = λ h by. reading_is (AnswersField (goal.F-post g) c.args.read) h (cell_is (goal.F-post g) c.args.read h by) 1 _ _ _ (returns-clause-answers g c)
