pub mod Shown
pub mod How
