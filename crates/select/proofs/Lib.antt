pub mod Fields
pub mod Routes
mod Ports
pub mod Proved
