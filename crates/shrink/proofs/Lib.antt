pub mod Applied
pub mod Passes
pub mod Whole
