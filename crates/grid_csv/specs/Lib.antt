pub mod Reading
pub mod Left
pub mod Writing
pub mod Law
pub mod Prelude
