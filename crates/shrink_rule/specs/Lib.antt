pub mod Drops
pub mod How
