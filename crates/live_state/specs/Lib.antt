pub mod Live
pub mod How
