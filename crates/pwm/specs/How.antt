-- How a wait is worked out: the steps in its ticks, and of the steps the way up or, past the top, the way up from the counter's last 0.
-- No promise of a public function names it; `proofs/` show that it comes to the single ticks of `Pwm`. Assumes nothing.
use Rattle.std.specs.Prelude.{ℕ, zero, suc, ◌+◌, ◌-◌, Bool, cond, not, ◌&&◌, nat_le, nat_lt}
use Rattle.bits.specs.Bits.{bit}
use Rattle.pwm.specs.declared.Registers.{Registers}
use Rattle.pwm.specs.declared.Wave.{Wave}
use Rattle.pwm.specs.declared.Pwm.{Pwm}
use Rattle.pwm.specs.Pwm.{stepped}

abbrev pub inv : ℕ → Bool
inv cnfg = bit 0 cnfg

abbrev pub at : ℕ → ℕ → Bool → Wave
at counter remainder output = record { counter = counter; remainder = remainder; output = output }

-- the wave with r ticks left over
abbrev pub left : ℕ → Wave → Wave
left r w = at w.counter r w.output

-- the channel with another wave
abbrev pub moved : Pwm → Wave → Pwm
moved p w = record { registers = p.registers; wave = w }

-- s steps
unfoldable pub often : Bool → ℕ → Registers → Wave → Wave
often runs zero g w = w
often runs (suc s) g w = stepped runs g (often runs s g w)

-- s steps, and r ticks left over
abbrev pub steps_of : Bool → ℕ → ℕ → Registers → Wave → Wave
steps_of runs s r g w = left r (often runs s g w)

-- MODE 1: the counter gone up to k, where CMP may lie on the way
abbrev pub climbed : Registers → ℕ → ℕ → Wave → Wave
climbed g k r w = at k r (cond (nat_lt w.counter g.cmp && nat_le g.cmp k) (inv g.cnfg) w.output)

-- MODE 1: the counter gone to 0, and from there up to k
abbrev pub wrapped : Registers → ℕ → ℕ → Wave
wrapped g k r = at k r (cond (nat_le g.cmp k) (inv g.cnfg) (not (inv g.cnfg)))

-- MODE 1: how many steps there are to 0
abbrev pub until_zero : Bool → ℕ → ℕ → ℕ
until_zero runs counter max = cond (nat_lt max counter) (cond runs (65536 - counter) 1) (max - counter + 1)
