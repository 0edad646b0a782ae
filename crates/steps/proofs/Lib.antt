pub mod ConcludeLaws
pub mod CongrLaws
pub mod JobLaws
pub mod Keeping
pub mod KindLaws
pub mod PlainLaws
pub mod Splitting
