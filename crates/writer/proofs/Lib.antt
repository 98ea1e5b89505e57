pub mod Firsts
pub mod Answers
pub mod Back
pub mod Again
pub mod Replayed
pub mod Proved
