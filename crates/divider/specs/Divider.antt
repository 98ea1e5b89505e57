-- Paper 01, PWM: "CS 0 is off; CS 1 to 7 divide the clock by N = 1, 2, 4, 8, 16, 32, 64", and Rates: the same choices for SPI.
-- Assumes nothing.
use Rattle.std.specs.Prelude.{ℕ, ◌-◌, ◌^◌, cond, ltb}

-- the choices 1 to 7 divide by 1, 2, 4, .. 64; 0 and what lies above 7 name no divider, which is said by 0
abbrev pub divider_of : ℕ → ℕ
divider_of choice = cond (ltb choice 1) 0 (cond (ltb 7 choice) 0 (2 ^ (choice - 1)))
