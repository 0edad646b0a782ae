pub mod Arithmetic
pub mod Probing
pub mod Indexing
pub mod Filling
