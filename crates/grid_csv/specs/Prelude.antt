-- The words of contracts, passed on from one place. Declares nothing.
pub use Rattle.csv.specs.Records.{fields_of}
pub use Rattle.csv.specs.Writing.{default_writer, row_text}
pub use Rattle.grid_csv.specs.Law.{ReadsBack}
pub use Rattle.grid_csv.specs.Left.{HasLeft, Took, AddsCells, IsMemoryOrBad, HasWritten, width_of}
pub use Rattle.grid_csv.specs.Reading.{AnswersField, IsFault, IsOrMemory, MayRead, MayReadBelow, ReadsBy, first_of, read_header, reading, reading_below, records_of, without_header}
pub use Rattle.grid_csv.specs.Writing.{WritesBy, AnswersCell, IsCsv, MayWrite, MayWriteBelow, below_names, sheet_text}
pub use Rattle.std.specs.List.{AllZip}
