pub mod Prints
pub mod OfLogs
pub mod Readings
