pub mod Formed
pub mod Ranges
