pub mod Has
pub mod Word
pub mod Many
pub mod Build
pub mod Loops
pub mod Each
