pub mod Laws
pub mod Appending
