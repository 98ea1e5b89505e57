pub mod Select
pub mod Facts
pub mod How
