pub mod Laws
pub mod Values
pub mod Marking
pub mod Roots
