pub mod Command
pub mod Reply
pub mod Refusal
pub mod LineEdit
pub mod Errors
