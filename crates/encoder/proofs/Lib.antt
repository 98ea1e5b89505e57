pub mod Counting
pub mod Proved
