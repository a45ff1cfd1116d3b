pub mod Scan
pub mod Header
pub mod Samples
pub mod Reading
pub mod Writing
pub mod Enlarging
pub mod Prelude
