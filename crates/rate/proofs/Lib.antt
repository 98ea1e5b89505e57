-- Laws that belong to no one function.
pub mod Order
pub mod Sides
pub mod Answers
pub mod Thousands
pub mod Proved
