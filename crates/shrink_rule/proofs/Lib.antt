pub mod Every
pub mod Sorts
pub mod Rules
pub mod Same
