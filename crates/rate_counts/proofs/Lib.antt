pub mod Dividers
pub mod Around
