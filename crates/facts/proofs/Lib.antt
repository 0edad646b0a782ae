pub mod Keeping
pub mod Wants
