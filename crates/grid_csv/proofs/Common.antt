-- The names that most proofs cite, passed on from one place. Declares nothing. Lemmas that
-- definitions cite import none of it.
pub use Rattle.csv.proofs.ReadFacts.{rows-end, rows-more}
pub use Rattle.csv.proofs.RoundTrip.{read-write}
unfoldable pub use Rattle.csv.specs.Machine.{next_record}
pub use Rattle.csv.specs.Machine.{Read, step, is_end, ends_at_end, fields_after, field_after}
unfoldable pub use Rattle.csv.specs.Reading.{strip_bom, Reached, records_from}
pub use Rattle.csv.specs.Reading.{default_config, ReadRecord, is_flexible, took_first, is_bom, records_next}
unfoldable pub use Rattle.csv.specs.Records.{field_at}
pub use Rattle.csv.specs.Records.{partial_of}
unfoldable pub use Rattle.csv.specs.Writing.{fields_text, is_blank, escaped}
pub use Rattle.csv.specs.Writing.{field_text, needs_byte, read_back, fields_written, has_written, writer_pending, writer_setup, writer_under}
pub use Rattle.grid.specs.Conversion.{equal_rows}
unfoldable pub use Rattle.grid_base.proofs.Common.{is_utf8}
pub use Rattle.grid_base.proofs.Common.{All-push, GridValue, AllZip, AllZip-long, list_any, cases_Bool, col_count, storage, ⊤, get_or_default, All-map, is_utf8-from_IsUtf8, IsTable, flat_map-append, concat_rows, each_same, length-map, row, CanCut, scalars, IsScalar, NoCharPasses, and_parts, cases_lt, IsUtf8-append, IsUtf8-encode, IsUtf8-nil, NoCharPasses-byte, encode_ascii, AllZip-map, IsUtf8-string_bytes, All-cons, false_from_ne_true, IsUtf8-from_is_utf8}
pub use Rattle.grid_base.proofs.Lemmas.{AllZip-append}
pub use Rattle.grid_csv.specs.Left.{records_at}
pub use Rattle.grid_csv.specs.Prelude.{width_of, AnswersField, sheet_text, AnswersCell, first_of, IsFault, fields_of, default_writer, row_text, AddsCells, MayRead, HasWritten, records_of, IsMemoryOrBad, HasLeft, MayReadBelow, read_header, WritesBy, Took, below_names, ReadsBack, MayWrite, IsOrMemory, ReadsBy, reading_below, IsCsv}
pub use Rattle.grid_csv.specs.Reading.{AreCells, AreRows, IsBadRecord, IsBadAt, cell_before, cell_of, read_fields, below_header, later_of, prepend, read_records, row_before}
pub use Rattle.std.proofs.lemmas.Result.{err_from_is_err_and}
