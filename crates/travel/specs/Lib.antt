pub mod Stretch
pub mod Demand
pub mod Log
