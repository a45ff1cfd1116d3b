pub mod Brought
pub mod Copied
pub mod LineAnswers
pub mod Rewritten
pub mod SortedLines
pub mod Written
pub mod Prelude
