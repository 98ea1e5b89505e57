pub mod Writer
pub mod Facts
pub mod How
