-- What the calls for C promise.
pub mod Word
pub mod How
