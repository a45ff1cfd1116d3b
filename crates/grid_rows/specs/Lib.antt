pub mod Rows
pub mod Builder
