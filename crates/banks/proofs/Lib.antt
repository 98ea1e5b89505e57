mod Parts
mod Copies
pub mod Places
pub mod Whole
pub mod Sweeps
