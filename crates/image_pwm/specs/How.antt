-- How the code has a PWM channel: two numbers of 8 bytes, least byte first. They, the channel of two numbers, and whether two numbers are a channel's.
-- Assumes nothing.
use Rattle.std.specs.Prelude.{ℕ, ◌+◌, ◌*◌, ◌-◌, ◌/◌, ◌%◌, ◌^◌, Bool, ◌&&◌, eqb, ltb, leb}
use Rattle.bits.specs.Bits.{bit, num}
use Rattle.records.specs.Record.{pwm_cnfg}
use Rattle.divider.specs.Divider.{divider_of}
use Rattle.pwm.specs.declared.Registers.{Registers}
use Rattle.pwm.specs.declared.Wave.{Wave}
use Rattle.pwm.specs.declared.Pwm.{Pwm}

unfoldable pub registers_number : Registers → ℕ
registers_number g = g.max + 2 ^ 16 * g.cmp + 2 ^ 32 * g.cnfg + 2 ^ 48 * g.cs

unfoldable pub registers_of : ℕ → Registers
registers_of v = record { max = v % 2 ^ 16; cmp = v / 2 ^ 16 % 2 ^ 16; cnfg = v / 2 ^ 32 % 2 ^ 16; cs = v / 2 ^ 48 }

unfoldable pub wave_number : Wave → ℕ
wave_number w = w.counter + 2 ^ 16 * w.remainder + 2 ^ 24 * num w.output

unfoldable pub wave_of : ℕ → Wave
wave_of v = record { counter = v % 2 ^ 16; remainder = v / 2 ^ 16 % 2 ^ 8; output = bit 24 v }

abbrev pub pwm_of : ℕ → ℕ → Pwm
pwm_of v w = record { registers = registers_of v; wave = wave_of w }

abbrev pub is_registers : ℕ → Bool
is_registers v = pwm_cnfg (v / 2 ^ 32 % 2 ^ 16) && ltb (v / 2 ^ 48) 8

abbrev pub is_wave : ℕ → Bool
is_wave w = ltb (w / 2 ^ 24) 2

-- the remainder is below N, which is 2 to the power of CS - 1, just where twice it is below 2 to the power of CS
unfoldable pub is_short : Pwm → Bool
is_short p = leb p.wave.remainder (divider_of p.registers.cs - 1)

abbrev pub is_quick : ℕ → ℕ → Bool
is_quick v w = eqb (w / 2 ^ 16 % 2 ^ 8 * 2 / 2 ^ (v / 2 ^ 48 % 64)) 0
