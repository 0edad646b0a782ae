pub mod Effects
pub mod Justifying
pub mod Owing
