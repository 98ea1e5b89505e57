pub mod Code
pub mod Facts
