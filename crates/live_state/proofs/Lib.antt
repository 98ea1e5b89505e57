pub mod Ways
pub mod Two
pub mod Refused
pub mod Steps
pub mod Rooms
pub mod Laid
