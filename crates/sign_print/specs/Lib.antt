pub mod Said
pub mod How
