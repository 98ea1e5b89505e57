-- What a write that is not refused comes to, which the replay asks about first; what a GO with a failure does.
-- Assumes nothing.
use Rattle.std.specs.Prelude.{ℕ, cond, eqb, Option}
use Rattle.i2c.specs.declared.I2c.{I2c}
use Rattle.i2c_code.specs.declared.Failure.{Failure}
use Rattle.i2c_code.specs.Code.{failure_number, ended}
use Rattle.i2c.specs.I2c.{code, recalled, on_addr, on_cntl, ran}

abbrev pub on_write : ℕ → ℕ → I2c → I2c
on_write register v c = cond (eqb register 0) (on_addr v c) (cond (eqb register 1) (on_cntl v c) (ran c))

abbrev pub gone : I2c → Option Failure → I2c
gone c failure = let nobody = eqb (failure_number failure) 1 in
    record { addr = c.addr; cntl = c.cntl; phase = ended nobody (code c); acknowledged = recalled nobody (code c); answer = 3; failure = failure }
