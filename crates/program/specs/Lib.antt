pub mod Read
pub mod Ready
