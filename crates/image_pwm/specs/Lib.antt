pub mod Words
pub mod How
