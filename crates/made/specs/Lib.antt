pub mod Made
pub mod How
