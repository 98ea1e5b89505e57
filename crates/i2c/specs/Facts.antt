-- What is shown of the rules: what is recalled, and what the slave's answer does.
-- Assumes nothing.
use Rattle.std.specs.Prelude.{ℕ, ◌≡◌, true, false, not, ◌&&◌, eqb, None, Some}
use Rattle.bits.specs.Bits.{bit}
use Rattle.refused.specs.declared.Refusal.TheVariants.{WrongControl}
use Rattle.fold.specs.Turn.{goes, refused}
use Rattle.refused.specs.declared.Refusal.TheVariants.{WrongControl}
use Rattle.i2c_code.specs.declared.Phase.{Phase}
use Rattle.i2c_code.specs.declared.Phase.TheVariants.{Idle}
use Rattle.i2c_code.specs.declared.Failure.TheVariants.{Address}
use Rattle.i2c_code.specs.Code.{code_of, state_of, stop_alone, allowed, ended}
use Rattle.i2c_code.specs.Facts.{accepts}
use Rattle.i2c.specs.declared.I2c.{I2c}
use Rattle.i2c.specs.I2c.{code, recalled, ran, go_turn}

pub record Recalled : Type 0 where
  -- "is false after any send or any STOP"; after any other byte it is the ACK, if the slave was there to send it
  pub send : (c : I2c) → (code c).byte ≡ true → (code c).receive ≡ false → (ran c).acknowledged ≡ false
  pub stop : (c : I2c) → (code c).stop ≡ true → (ran c).acknowledged ≡ false
  pub received : (c : I2c) → (code c).byte ≡ true → (code c).receive ≡ true → (code c).stop ≡ false → (ran c).failure ≡ None → (ran c).acknowledged ≡ (code c).ack
  -- "when true the four STOP-alone codes of RX idle fall away", and no other
  pub fall_away : (p : Phase) (r c : ℕ) → accepts true p r c ≡ accepts false p r c && not (eqb (state_of p) 2 && stop_alone (code_of r c))
  -- "tested after 11"
  pub eleven_first : (c : I2c) → allowed c.phase (code c) ≡ false → go_turn c ≡ refused WrongControl

pub record Answered : Type 0 where
  -- "used up by that GO", one that is accepted: "Without it all is acknowledged"
  pub used_up : (c d : I2c) → go_turn c ≡ goes d → d.answer ≡ 3
  -- and so a GO does what paper 01 and h) say
  pub plain : (c : I2c) → c.answer ≡ 3 → ran c
      ≡ record { addr = c.addr; cntl = c.cntl; phase = ended false (code c); acknowledged = recalled false (code c); answer = 3; failure = None }
  -- an address failure, whatever is said of the data
  pub address : (c : I2c) → (code c).start ≡ true → bit 0 c.answer ≡ false
      → ((ran c).failure ≡ Some Address) × ((ran c).phase ≡ Idle) × ((ran c).acknowledged ≡ false)
