pub mod Numbers
pub mod Plain
pub mod Records
pub mod Placed
pub mod Going
