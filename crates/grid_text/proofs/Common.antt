-- The names that most proofs cite, passed on from one place. Declares nothing. Lemmas that
-- definitions cite import none of it.
pub use Rattle.grid.specs.Conversion.{equal_rows}
pub use Rattle.grid_base.proofs.Common.{IsTable, slice_split, get_or_default, slice_split_at, row, scalars, All-push, nil_from_length, concat_rows, eqb-false, false_from_ne_true, length-map, bytes_eq-Decides, NonePass, NoCharPasses, cases_lt, NoCharPasses-byte, chars-encodes, IsScalar, and_parts, cons_from_encodes, length-encode, len_utf8_bounds, mag, signed_decimal, decimal_by_steps_wide, All-append, slice_split_none, cases_eq, position_or_len, flat_map-append, row_count, col_count, storage, CanCut, GridValue, encode_ascii, chars-nil, chars_past_char, IsUtf8-past_char}
pub use Rattle.grid_text.specs.Prelude.{numbers, AnswersCell, table_text, line_of_numbers, numbers_text, MayWriteLine, MayWriteRows, ReadsBack, ReadsNumber}
pub use Rattle.grid_text.specs.Reading.{prepend, bad_word, row_before, bad_char, MayReadLine, cell_before, read_line, read_lines, rows_of, as_table, table_read, reading, IsRow, reading_words, MayReadRow, MayReadLines, MayReadRows, AnswersChar, TriesWord, IsBadRow, IsOrMemory, MayReadOrMemory, MayReadAs}
pub use Rattle.grid_text.specs.Writing.{line_text}
pub use Rattle.std.proofs.lemmas.Result.{err_from_is_err_and}
pub use Rattle.text_lines.proofs.LineLemmas.{lines-first, lines-none}
pub use Rattle.text_lines.proofs.WordLemmas.{words_fit}
unfoldable pub use Rattle.text_lines.specs.Lines.{lines_of}
pub use Rattle.text_lines.specs.Lines.{words_of, without_return, without_empty_end, separates, is_word, first_line, later_lines}
