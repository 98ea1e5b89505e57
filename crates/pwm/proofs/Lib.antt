-- Laws that belong to no one function.
mod Rounds
pub mod Waits
pub mod Proved
