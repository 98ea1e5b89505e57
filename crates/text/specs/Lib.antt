pub mod Text
pub mod Facts
pub mod Puts
