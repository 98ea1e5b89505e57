pub mod Whole
pub mod Still
pub mod Answers
pub mod Proved
