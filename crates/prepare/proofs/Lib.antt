pub mod Jobs
pub mod Refusals
