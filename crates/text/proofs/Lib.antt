pub mod Lines
pub mod Room
pub mod Proved
pub mod Puts
