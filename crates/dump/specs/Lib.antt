pub mod Dump
pub mod How
