pub mod Entry
pub mod How
