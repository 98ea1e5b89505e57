mod Chunks
pub mod Proved
