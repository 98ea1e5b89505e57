mod Fresh
mod Whole
pub mod Numbers
pub mod Notes
pub mod OneBank
pub mod Replays
pub mod Bytes
pub mod Proved
