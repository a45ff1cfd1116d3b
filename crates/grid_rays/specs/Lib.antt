pub mod Segments
pub mod Drawn
pub mod Rays
pub mod Steps
pub mod Along
pub mod Sight
