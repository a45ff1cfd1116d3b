pub mod Least
pub mod StepGives
