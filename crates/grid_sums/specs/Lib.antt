pub mod Numbers
pub mod Corners
pub mod Prelude
