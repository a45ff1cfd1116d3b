pub mod Around
pub mod Directions
pub mod Marks
pub mod NearCounts
pub mod Neighbors
pub mod Prelude
