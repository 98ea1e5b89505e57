mod Ways
pub mod Replaying
pub mod Numbers
mod Reached
