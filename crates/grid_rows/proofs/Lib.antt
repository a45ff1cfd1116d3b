pub mod RowsLemmas
pub mod ReadingLemmas
