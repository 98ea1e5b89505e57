-- Each block of a bank in a stream's image: its bytes, and the range of the blocks that have them.
-- Assumes nothing.
use Rattle.std.specs.Prelude.{ℕ, ◌^◌, ◌<◌, List, [], ◌∷◌, ◌++◌}
use Rattle.std.specs.Int.Signed.{mag}
use Rattle.bits.specs.Bits.{num}
use Rattle.numbers.specs.Bytes.{le_bytes}
use Rattle.encoder_count.specs.Count.{pattern}
use Rattle.encoder.specs.declared.Encoder.{Encoder}
use Rattle.i2c.specs.declared.I2c.{I2c}
use Rattle.i2c.specs.I2c.{state_of, failure_number}

-- the I2C: ADDR, CNTL, the state, whether the last received byte was acknowledged, the slave's answer, the failure
abbrev pub i2c_bytes : I2c → List ℕ
i2c_bytes c = c.addr ∷ c.cntl ∷ state_of c.phase ∷ num c.acknowledged ∷ c.answer ∷ failure_number c.failure ∷ 0 ∷ 0 ∷ []

abbrev pub FitsI2c : I2c → Type 0
FitsI2c c = (c.addr < 256) × (c.cntl < 16) × (c.answer < 4) × (failure_number c.failure < 3)

-- an encoder: the count's pattern, CNFG, STAT, the pins, whether they were seen
abbrev pub encoder_bytes : Encoder → List ℕ
encoder_bytes e = le_bytes 4 (pattern e.count) ++ e.cnfg ∷ e.stat ∷ e.pins ∷ num e.seen ∷ []

-- a count of 32 bits: `mag` is n for n and for -(n + 1)
abbrev pub FitsEncoder : Encoder → Type 0
FitsEncoder e = (mag e.count < 2 ^ 31) × (e.cnfg < 32) × (e.stat < 64) × (e.pins < 4)
