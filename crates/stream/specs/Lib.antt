pub mod Stream
pub mod Facts
