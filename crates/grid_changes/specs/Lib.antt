pub mod Entry
pub mod Timeline
pub mod Change
pub mod Steps
pub mod Asked
pub mod Differences
