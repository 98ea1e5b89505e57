mod Keeping
mod Ways
pub mod Once
pub mod Proved
