pub mod Pins
mod Some
pub mod Marks
mod Quick
mod Means
