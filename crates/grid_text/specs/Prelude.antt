-- The words of contracts, passed on from one place. Declares nothing.
pub use Rattle.grid.specs.Prelude.{numbers}
pub use Rattle.grid_text.specs.Law.{ReadsBack, ReadsNumber}
pub use Rattle.grid_text.specs.Reading.{ReadsBy, ReadsWordsBy}
pub use Rattle.grid_text.specs.Writing.{WritesBy, AnswersCell, MayWriteLine, MayWriteRows, table_text, line_of_numbers, numbers_text}
