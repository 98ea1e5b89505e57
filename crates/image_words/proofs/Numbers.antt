-- What the code makes of numbers.
-- Assumes nothing.
use mathlib.Core.Path.{◌≡◌}
use Prim.Native.Nat.{ℕ, ◌/◌, ◌%◌, ◌^◌, ◌<◌}
use native.Mathlib.Omega.{arith}
use lib.IntN.{ℤ}
use Rattle.bits.specs.Bits.{bit}
use Rattle.encoder_count.specs.Count.{signed}
use Rattle.encoder.specs.declared.Encoder.{Encoder}
use Rattle.i2c_code.specs.declared.Phase.{Phase}
use Rattle.i2c_code.specs.declared.Phase.TheVariants.{Idle, TxIdle, RxIdle}
use Rattle.i2c.specs.I2c.{state_of}
use Rattle.image_words.specs.Words.{FitsEncoder}
use Rattle.image_words.specs.How.{encoder_number, low_number, encoder_of}

pub encoder_made : (v : ℕ) (z : ℤ) → z ≡ signed (v % 2 ^ 32)
    → ◌≡◌ {A = Encoder} (record { count = z; cnfg = v / 2 ^ 32 % 2 ^ 8; stat = v / 2 ^ 40 % 2 ^ 8; pins = v / 2 ^ 48 % 2 ^ 8; seen = bit 56 v }) (encoder_of v)
unfolding encoder_of
encoder_made v z e = rw e

pub state_small : (p : Phase) → state_of p < 3
state_small Idle = omega arith
state_small TxIdle = omega arith
state_small RxIdle = omega arith

pub low_number_lem : (e : Encoder) → FitsEncoder e → low_number e ≡ encoder_number e
unfolding low_number encoder_number
low_number_lem e f =
    let a : e.cnfg % 2 ^ 8 ≡ e.cnfg = omega (arith, f.1) in
    let b : e.stat % 2 ^ 8 ≡ e.stat = omega (arith, f.2) in
    rw (a, b)
