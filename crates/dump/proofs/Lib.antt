pub mod Views
pub mod Passes
pub mod Whole
