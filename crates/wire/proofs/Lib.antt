pub mod Laws
pub mod Formed
pub mod Known
