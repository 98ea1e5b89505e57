mod States
pub mod Answers
pub mod Proved
