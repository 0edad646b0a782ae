pub mod AddLaws
pub mod AddViewLaws
pub mod Keeping
pub mod MergeLaws
pub mod TestLaws
pub mod ViewLaws
