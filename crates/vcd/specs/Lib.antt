pub mod Lines
pub mod Dump
pub mod Entries
pub mod Reader
pub mod How
pub mod Facts
