pub mod Turns
pub mod Runs
pub mod Laws
pub mod Shrinks
pub mod Written
pub mod Places
pub mod Walks
pub mod Streams
