-- How the code gets there: all pins at once, in a number with one place for each pin.
-- Assumes nothing.
use Rattle.std.specs.Prelude.{ℕ, ◌+◌, ◌*◌, ◌/◌, ◌%◌, Bool, cond}
use Rattle.select_allowed.specs.How.{ones}

-- the PWM channels that are routed, two bits per pin, as in a SELECT; a port's are in bits 2, 3 and 4
abbrev pub pwm_pins : Bool → ℕ → ℕ
pwm_pins port select = cond port (select / 4 % 2 + select / 8 % 2 * 4 + select / 16 % 2 * 16) (ones select)
