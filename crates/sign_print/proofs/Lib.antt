pub mod Words
pub mod Spelt
pub mod Room
pub mod Saying
