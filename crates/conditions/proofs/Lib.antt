pub mod Keeping
pub mod Sides
