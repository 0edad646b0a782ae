pub mod Yielding
pub mod Acting
pub mod Steady
