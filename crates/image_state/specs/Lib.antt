pub mod Image
pub mod How
pub mod Facts
