pub mod Unions
pub mod Starting
