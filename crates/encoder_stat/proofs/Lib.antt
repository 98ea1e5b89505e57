pub mod Marks
mod Steps
