pub mod Concluding
pub mod Step
