pub mod Pwm
pub mod How
pub mod Facts
