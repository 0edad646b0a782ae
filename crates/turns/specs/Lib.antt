pub mod Walking
pub mod Turning
