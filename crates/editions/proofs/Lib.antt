mod Three
mod Four
pub mod Proved
