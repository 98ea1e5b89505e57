pub mod Encoder
pub mod Facts
