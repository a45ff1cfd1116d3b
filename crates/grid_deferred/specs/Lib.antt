pub mod Through
pub mod Carry
pub mod Carried
pub mod Deferred
pub mod Run
pub mod Prelude
