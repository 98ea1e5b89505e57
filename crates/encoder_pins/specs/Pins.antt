-- An encoder's CNFG, and its pins of MODE 0. Pins are 0 to 3: bit 0 is the first pin A, bit 1 the second pin B.
-- Assumes nothing.
use Rattle.std.specs.Prelude.{ℕ, ◌+◌, ◌-◌, ◌%◌, Bool, cond}
use Rattle.bits.specs.Bits.{bit}
use Rattle.encoder_pins.specs.declared.Change.{Change}
use Rattle.encoder_pins.specs.declared.Change.TheVariants.{Same, Forward, Double, Back}

-- CNFG: "bit 0 EN, 1 RST, 2 MODE, 3 CERR, 4 COVR"; the last two count in a write alone
abbrev pub en : ℕ → Bool
en cnfg = bit 0 cnfg

abbrev pub rst : ℕ → Bool
rst cnfg = bit 1 cnfg

abbrev pub mode : ℕ → Bool
mode cnfg = bit 2 cnfg

-- "(A,B) runs 00, 10, 11, 01, 00 forward": the place of A and B on that run
abbrev pub place : ℕ → ℕ
place pins = cond (bit 0 pins) (cond (bit 1 pins) 2 1) (cond (bit 1 pins) 3 0)

-- how many places forward the new pins are from the old, of four
abbrev pub places : ℕ → ℕ → ℕ
places old new = (4 + place new - place old) % 4

abbrev pub forward : Change → ℕ
forward Same = 0
forward Forward = 1
forward Double = 2
forward Back = 3
