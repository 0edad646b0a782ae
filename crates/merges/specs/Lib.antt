pub mod Merge
pub mod Step
