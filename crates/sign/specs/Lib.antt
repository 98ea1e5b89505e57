pub mod Sign
pub mod Facts
pub mod Mirror
pub mod How
