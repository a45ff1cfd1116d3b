-- The lemmas of this crate, passed on to the proofs of its functions. Declares nothing.
pub use Rattle.grid_csv.proofs.CellLemmas.{cells_start, cells_more, cells_bad, cells_end, CellsSoFar}
pub use Rattle.grid_csv.proofs.HeaderLemmas.{below_bad_header, below_rows, header_names, header_is, header_bad}
pub use Rattle.grid_csv.proofs.LawLemmas.{read_ok, read_err, same_rows, same_texts}
pub use Rattle.grid_csv.proofs.ReadLemmas.{cell_is, reading_is, reading_below_is}
pub use Rattle.grid_csv.proofs.RecordLemmas.{found_one, found_none}
pub use Rattle.grid_csv.proofs.RowLemmas.{rows_start, rows_next, rows_bad, rows_ragged, rows_end, RowsSoFar}
pub use Rattle.grid_csv.proofs.TextLemmas.{row_utf8, sheet_utf8}
pub use Rattle.grid_csv.proofs.WriteLemmas.{field_is, lines_are, ok_more, writer_start, written_text, strings_utf8, some_names, sheet_more, records_utf8, below_joined}
pub use Rattle.grid_csv.proofs.ZipLemmas.{zip_next, ZipSoFar, zip_start, zip_end}
