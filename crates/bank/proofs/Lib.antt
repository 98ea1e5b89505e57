pub mod Turns
pub mod Sweep
pub mod Full
pub mod Proved
