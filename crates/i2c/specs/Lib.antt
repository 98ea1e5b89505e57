pub mod I2c
pub mod How
pub mod Facts
