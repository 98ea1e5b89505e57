pub mod Allowed
pub mod How
