pub mod State
pub mod How
