pub mod Shaft
pub mod Motions
