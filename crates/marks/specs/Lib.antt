pub mod Marks
pub mod Covering
