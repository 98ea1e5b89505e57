pub mod Shrink
pub mod How
