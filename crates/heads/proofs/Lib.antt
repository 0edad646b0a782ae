pub mod Claiming
pub mod Lone
pub mod Merging
pub mod Heading
