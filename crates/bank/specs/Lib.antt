pub mod Bank
pub mod Facts
