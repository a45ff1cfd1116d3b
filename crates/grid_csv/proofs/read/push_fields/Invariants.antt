-- The cells of the fields so far.
use Rattle.std.proofs.Common.{◌≡◌}
use Rattle.grid_csv.proofs.Common.{fields_of, AnswersField}
use Rattle.grid_csv.proofs.Lemmas.{CellsSoFar}
use Rattle.grid_csv.proofs.read.push_fields.Given as goal

abbrev pub invariant-loop-index : goal.invariant-loop-index
invariant-loop-index g l = record {
  same : l.index-iterator.iter.row.now ≡ l.fn.row;
  count : l.index-iterator.count ≡ l.index-iterator.iter.at;
  cells : CellsSoFar (AnswersField (goal.F-post g) l.read) (fields_of l.fn.row) l.fn.rows l.rows l.index-iterator.iter.at;
}
