pub mod Value
pub mod Evaluation
