-- The lemmas of this crate, passed on to the proofs of its functions. Declares nothing.
pub use Rattle.grid_text.proofs.LawLemmas.{reads_back}
pub use Rattle.grid_text.proofs.LineLemmas.{line_start, line_more, line_bad, line_end, LineSoFar, first_scalar, past_char, line_room}
pub use Rattle.grid_text.proofs.NumberTextLemmas.{numbers_back}
pub use Rattle.grid_text.proofs.ReadLemmas.{lines_start, lines_more, lines_bad, lines_ragged, lines_end, LinesSoFar}
pub use Rattle.grid_text.proofs.TableLemmas.{back_ok, back_err, is_read, fewer_read}
pub use Rattle.grid_text.proofs.WriteLemmas.{cell_more, row_may, rows_written, row_more}
