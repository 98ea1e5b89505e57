pub mod Reading
pub mod How
