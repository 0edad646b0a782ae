pub mod Subterms
pub mod Bits
pub mod Closing
pub mod Marking
pub mod Laws
