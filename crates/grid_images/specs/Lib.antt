pub mod TableOrder
pub mod Images
pub mod Prelude
