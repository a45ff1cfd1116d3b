-- The fields so far, of the cells before those that are left.
use Rattle.std.proofs.Common.{◌≡◌, []}
use Rattle.grid_csv.proofs.Common.{fields_of, partial_of, AnswersCell}
use Rattle.grid_csv.proofs.Lemmas.{ZipSoFar}
use Rattle.grid_csv.proofs.write.fill_record.Given as goal

abbrev pub invariant-loop-cell : goal.invariant-loop-cell
invariant-loop-cell g l = record {
  partial : partial_of l.fields ≡ [];
  cells : ZipSoFar (AnswersCell (goal.F-post g) l.write) l.fn.row l.cell-iterator (fields_of l.fields);
}
