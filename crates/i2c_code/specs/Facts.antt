-- What is shown of the codes: how many are allowed.
-- Assumes nothing.
use Rattle.std.specs.Prelude.{ℕ, zero, suc, ◌+◌, ◌≡◌, Bool, not, cond, ◌&&◌}
use Rattle.bits.specs.Bits.{num}
use Rattle.i2c_code.specs.declared.Phase.{Phase}
use Rattle.i2c_code.specs.declared.Phase.TheVariants.{Idle, TxIdle, RxIdle}
use Rattle.i2c_code.specs.Code.{code_of, allowed, forbidden}

-- how many of 0 .. n - 1 pass a test
abbrev pub count : (ℕ → Bool) → ℕ → ℕ
count f zero = 0
count f (suc n) = count f n + num (f n)

-- whether a GO is refused by neither 11 nor 16, where `a` is recalled
abbrev pub accepts : Bool → Phase → ℕ → ℕ → Bool
accepts a p addr cntl = allowed p (code_of addr cntl) && not (forbidden p a (code_of addr cntl))

-- of how many of a state's 32 combinations, R/S 0 or 1 and CNTL 0 to 15
abbrev pub accepted_from : Bool → Phase → ℕ
accepted_from a p = count (accepts a p 0) 16 + count (accepts a p 1) 16

-- "of 96 state, R/S and CNTL combinations, 36 are allowed: 7 idle, 15 TX idle, 14 RX idle": now "a count per recalled fact"
abbrev pub Sums : Type 0
Sums = (a : Bool) → (accepted_from a Idle + accepted_from a TxIdle + accepted_from a RxIdle ≡ cond a 32 36)
    × (accepted_from a Idle ≡ 7) × (accepted_from a TxIdle ≡ 15) × (accepted_from a RxIdle ≡ cond a 10 14)
