-- What is shown of the rules.
-- Assumes nothing.
use Rattle.std.specs.Prelude.{ℕ, ◌+◌, ◌*◌, ◌≡◌, true, false}
use Rattle.select.specs.Select.{encoder_routed, pwm_routed, i2c_routed}

-- no pin of the ELVIS III serves two blocks, in a SELECT s: where encoder i is routed PWM 2i and 2i + 1 are not, and where the I2C is PWM 14, 15
-- and encoder 7 are not
pub record Alone (s : ℕ) : Type 0 where
  pub encoder : (i : ℕ) → encoder_routed false s i ≡ true → (pwm_routed false s (2 * i) ≡ false) × (pwm_routed false s (2 * i + 1) ≡ false)
  pub i2c : i2c_routed false s ≡ true → (pwm_routed false s 14 ≡ false) × (pwm_routed false s 15 ≡ false) × (encoder_routed false s 7 ≡ false)
