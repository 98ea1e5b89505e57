pub mod Cut
pub mod Facts
