pub mod Paper
pub mod Ours
