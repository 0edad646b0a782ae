pub mod Laws
pub mod Loading
pub mod Viewing
pub mod Words
