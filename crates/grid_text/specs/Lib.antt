pub mod Reading
pub mod Writing
pub mod Law
pub mod Prelude
