pub mod Makes
mod Sources
