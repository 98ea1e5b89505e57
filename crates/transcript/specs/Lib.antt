pub mod Judge
pub mod How
