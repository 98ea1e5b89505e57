-- A PWM channel in a stream's image: its bytes, and the range of the channels that have them.
-- Assumes nothing.
use Rattle.std.specs.Prelude.{ℕ, ◌<◌, ◌≡◌, true, List, [], ◌∷◌, ◌++◌}
use Rattle.bits.specs.Bits.{num}
use Rattle.fold.specs.Output.{bytes_of}
use Rattle.numbers.specs.Bytes.{le_bytes}
use Rattle.records.specs.Record.{pwm_cnfg}
use Rattle.pwm.specs.declared.Pwm.{Pwm}
use Rattle.pwm.specs.Facts.{Short}

-- a PWM channel: MAX, CMP, CNFG, CS and the counter in two bytes each, the remainder, the output
abbrev pub pwm_bytes : Pwm → List ℕ
pwm_bytes p = let g = p.registers in let w = p.wave in
    bytes_of (le_bytes 2) (g.max ∷ g.cmp ∷ g.cnfg ∷ g.cs ∷ w.counter ∷ []) ++ w.remainder ∷ num w.output ∷ 0 ∷ 0 ∷ 0 ∷ 0 ∷ []

-- the remainder is below N; with CS 0 it is 0
abbrev pub FitsPwm : Pwm → Type 0
FitsPwm p = let g = p.registers in
    (g.max < 65536) × (g.cmp < 65536) × (pwm_cnfg g.cnfg ≡ true) × (g.cs < 8) × (p.wave.counter < 65536) × Short p
