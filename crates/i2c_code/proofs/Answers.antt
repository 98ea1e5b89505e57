-- The failure of a GO, by the slave's answer.
-- Assumes nothing.
use mathlib.Core.Path.{◌≡◌}
use mathlib.Core.Bool.{true, false, not, and-false}
use Prim.Native.Nat.{ℕ}
use Rattle.bits.specs.Bits.{bit}
use Rattle.std.proofs.Common.{None, Some}
use Rattle.i2c_code.specs.declared.Failure.TheVariants.{Address}
use Rattle.i2c_code.specs.declared.Code.{Code}
use Rattle.i2c_code.specs.Code.{failed}

-- an answer that acknowledges all
pub all_heard : (answer : ℕ) (k : Code) → answer ≡ 3 → failed answer k ≡ None
all_heard answer k e = rw (e, and-false k.start, and-false (not k.receive), and-false k.byte)

pub not_there : (answer : ℕ) (k : Code) → k.start ≡ true → bit 0 answer ≡ false → failed answer k ≡ Some Address
not_there answer k s b = rw (s, b)
