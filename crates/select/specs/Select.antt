-- The function select: of the ELVIS III as paper 01 has it, of the myRIO's expansion port as paper 02 (n) has it. A SELECT is a number; the
-- ELVIS III's pins are the DIO 0 to 19. Each question is asked with whether it is a port's.
-- Assumes nothing.
use Rattle.std.specs.Prelude.{ℕ, ◌+◌, ◌*◌, Bool, cond, ◌&&◌, ltb, eqb}
use Rattle.bits.specs.Bits.{bit}
unfoldable pub use Rattle.select_allowed.specs.Allowed.{field_of, some}
pub use Rattle.select_allowed.specs.Allowed.{three, two, allowed}

-- ---- "Encoder i is routed if its pair is 2, PWM i if pin i is 1, I2C if 14 and 15 are 3". Of a port: "bit 7 I2C .., bit 5 encoder .., bits
-- 4 to 2 PWM 2 to 0"; "One encoder and three PWM channels per port"

abbrev pub encoder_routed : Bool → ℕ → ℕ → Bool
encoder_routed port select i = cond port (eqb i 0 && bit 5 select) (two select (2 * i) && two select (2 * i + 1))

abbrev pub pwm_routed : Bool → ℕ → ℕ → Bool
pwm_routed port select i = cond port (ltb i 3 && bit (2 + i) select) (eqb (field_of select i) 1)

abbrev pub i2c_routed : Bool → ℕ → Bool
i2c_routed port select = cond port (bit 7 select) (three select 14 && three select 15)
