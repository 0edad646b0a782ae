pub mod Walking
pub mod Operating
pub mod Tying
pub mod Turns
pub mod Planning
pub mod Stages
