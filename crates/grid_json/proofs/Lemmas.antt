-- The lemmas of this crate, passed on to the proofs of its functions. Declares nothing.
pub use Rattle.grid_json.proofs.MayReadLemmas.{may_more}
pub use Rattle.grid_json.proofs.ReadLemmas.{given_ok, given_err, next_cell, unknown_keys, too_long, parts_of_array, one_read}
pub use Rattle.grid_json.proofs.ReadingLemmas.{all_tests, value_is, reads_back}
pub use Rattle.grid_json.proofs.RowsLemmas.{values_start, values_next, values_end, ValuesSoFar, is_rows}
pub use Rattle.grid_json.proofs.RowsReadLemmas.{array_is, cells_more, cells_bad, cells_end, CellsSoFar, rows_start, rows_next, rows_bad, rows_ragged, rows_end, RowsSoFar}
pub use Rattle.grid_json.proofs.TableLemmas.{cut_of_table, cut_gives}
