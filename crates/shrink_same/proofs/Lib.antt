mod Again
mod Idle
mod Runs
mod Bytes
mod Longer
pub mod Back
pub mod Proved
