mod Group
pub mod Phase
pub mod Balance
pub mod Size
pub mod Counted
pub mod Motions
