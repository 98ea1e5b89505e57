-- The I2C control sequencer, as paper 01 has it, with what paper 02 has it recall (h) and the slave answer (i).
-- Assumes nothing.
use Rattle.std.specs.Prelude.{ℕ, Bool, false, not, cond, ◌&&◌, eqb, None}
use Rattle.refused.specs.declared.Refusal.TheVariants.{WrongControl, StopAfterAck}
use Rattle.fold.specs.Turn.{Turn, goes, refused}
use Rattle.i2c_code.specs.declared.Phase.TheVariants.{Idle}
use Rattle.i2c_code.specs.declared.Code.{Code}
pub use Rattle.i2c_code.specs.Code.{code_of, state_of, failed, failure_number, ended}
unfoldable pub use Rattle.i2c_code.specs.Code.{allowed, forbidden}
use Rattle.i2c.specs.declared.I2c.{I2c}

-- "whether its last received byte was acknowledged", "false after any send or any STOP": the ACK of a code that receives without STOP.
-- "An address failure also makes the fact recalled in h) false"
abbrev pub recalled : Bool → Code → Bool
recalled nobody k = not nobody && (k.byte && (k.receive && (not k.stop && k.ack)))

-- ---- what happens to the sequencer

abbrev pub on_addr : ℕ → I2c → I2c
on_addr v c = record { addr = v; cntl = c.cntl; phase = c.phase; acknowledged = c.acknowledged; answer = c.answer; failure = c.failure }

abbrev pub on_cntl : ℕ → I2c → I2c
on_cntl v c = record { addr = c.addr; cntl = v; phase = c.phase; acknowledged = c.acknowledged; answer = c.answer; failure = c.failure }

-- a record "tells how the slave answers the next accepted GO"; "a second one before it replaces the first"
abbrev pub on_answer : ℕ → I2c → I2c
on_answer v c = record { addr = c.addr; cntl = c.cntl; phase = c.phase; acknowledged = c.acknowledged; answer = v; failure = c.failure }

-- the code that a GO would run; the sequencer once it has run; the answer "is used up by that GO"
abbrev pub code : I2c → Code
code c = code_of c.addr c.cntl

abbrev pub ran : I2c → I2c
ran c = let failure = failed c.answer (code c) in let nobody = eqb (failure_number failure) 1 in
    record { addr = c.addr; cntl = c.cntl; phase = ended nobody (code c); acknowledged = recalled nobody (code c); answer = 3; failure = failure }

-- 11 "GO with a control code not allowed". 16 is "tested after 11"
abbrev pub go_turn : I2c → Turn I2c ℕ
go_turn c = cond (allowed c.phase (code c)) (cond (forbidden c.phase c.acknowledged (code c)) (refused StopAfterAck) (goes (ran c))) (refused WrongControl)

-- a write: "0 ADDR rw, 1 CNTL rw, 2 GO w"
abbrev pub write_turn : ℕ → ℕ → I2c → Turn I2c ℕ
write_turn register v c = cond (eqb register 0) (goes (on_addr v c)) (cond (eqb register 1) (goes (on_cntl v c)) (go_turn c))

-- ---- what is read: "0 ADDR, 1 CNTL, .. 3 state"; "Register 4 of block 3 reads the last GO's failure"

abbrev pub register_of : ℕ → I2c → ℕ
register_of register c = cond (eqb register 0) c.addr (cond (eqb register 1) c.cntl (cond (eqb register 3) (state_of c.phase) (failure_number c.failure)))

-- "Fresh state: all registers 0, I2C idle"; the fact "starts false"; without an answer "all is acknowledged"
abbrev pub fresh : I2c
fresh = record { addr = 0; cntl = 0; phase = Idle; acknowledged = false; answer = 3; failure = None }
