pub mod Events
pub mod Counting
pub mod Banks
pub mod Follows
pub mod Pins
pub mod Proved
