-- Both banks fresh, laid out flat.
-- Assumes nothing.
use mathlib.Core.Path.{◌≡◌, refl}
use Rattle.std.proofs.Common.{replicate}
use Rattle.encoder.specs.Encoder as encoder
use Rattle.pwm.specs.Pwm as pwm
use Rattle.i2c.specs.I2c as i2c
use Rattle.bank.specs.Bank.{fresh as fresh_bank}
use Rattle.banks.specs.State.{fresh}
use Rattle.banks.specs.How.{state_of}

pub fresh_laid : state_of (record { selects = replicate 2 0; encoders = replicate 20 encoder.fresh; pwms = replicate 40 pwm.fresh; i2cs = replicate 2 i2c.fresh }) ≡ fresh
unfolding state_of fresh_bank
fresh_laid = refl
