-- What is shown of the rules: facts that hold of every channel.
-- Assumes nothing.
use Rattle.std.specs.Prelude.{◌≡◌, ℕ, ◌-◌, ◌≤◌, Bool, true, false}
use Rattle.divider.specs.Divider.{divider_of}
use Rattle.pwm.specs.declared.Pwm.{Pwm}
use Rattle.pwm.specs.Pwm.{mode, on_ticks, on_write, fresh}

-- what holds of a fresh channel, and after every write and every wait, by either rule, of a channel of which it holds
pub record Always (Holds : Pwm → Type 0) : Type 0 where
  pub first : Holds fresh
  pub writes : (register v : ℕ) (p : Pwm) → Holds p → Holds (on_write register v p)
  pub ticks : (runs : Bool) (t : ℕ) (p : Pwm) → Holds p → Holds (on_ticks runs t p)

-- in MODE 0 the output is 0, "where it stays"
abbrev pub Quiet : Pwm → Type 0
Quiet p = mode p.registers.cnfg ≡ false → p.wave.output ≡ false

-- the remainder stays below N, so "at N" is when a tick would make it N; with CS 0 it is 0
abbrev pub Short : Pwm → Type 0
Short p = p.wave.remainder ≤ divider_of p.registers.cs - 1

-- the two rules differ on no channel but one that stands above MAX in MODE 1
abbrev pub Agree : Type 0
Agree = (t : ℕ) (p : Pwm) → (mode p.registers.cnfg ≡ true → p.wave.counter ≤ p.registers.max) → on_ticks true t p ≡ on_ticks false t p
