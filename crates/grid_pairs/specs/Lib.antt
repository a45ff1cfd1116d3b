pub mod Joined
pub mod Answered
pub mod Parts
pub mod Folded
pub mod Found
pub mod Prelude
