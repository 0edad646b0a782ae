pub mod Checking
pub mod Collecting
pub mod HeadValues
pub mod Settling
pub mod Turns
pub mod Keeping
pub mod Waiting
