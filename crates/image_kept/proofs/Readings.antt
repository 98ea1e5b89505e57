-- What is read of a state with every register in its range is below 2^64, so that its 8 bytes say it.
-- Assumes nothing.
use mathlib.Core.Path.{◌≡◌, refl, sym, subst}
use mathlib.Core.Bool.{Bool, true, false, cond}
use mathlib.Core.List.{List, [], ◌∷◌, ◌++◌}
use Prim.Native.Nat.{ℕ, zero, suc, ◌^◌, ◌<◌}
use native.Mathlib.Omega.{arith}
use lib.Dec.{eqb}
use lib.ListN.{get_or}
use Rattle.std.proofs.Common.{Result, Ok, Err}
use Rattle.refused.specs.declared.Refusal.{Refusal}
use Rattle.fold.specs.Turn.{Turn, given}
use Rattle.fold.specs.Run.{run_of}
use Rattle.fold.proofs.Turns.{lift_given}
use Rattle.fold.proofs.Runs.{every_run}
use Rattle.edition.specs.declared.Edition.{Edition}
use Rattle.wire.specs.Decode.{bank_of}
use Rattle.records.specs.declared.Record.{Record}
use Rattle.records.specs.declared.Record.TheVariants.{WriteSelect, WriteEncoder, WritePwm, WriteI2c, Answer, ReadSelect, ReadEncoder, ReadPwm, ReadI2c, Pins, Ticks}
use Rattle.wire.proofs.Formed.{bank_formed}
use Rattle.encoder.specs.declared.Encoder.{Encoder}
use Rattle.encoder_count.specs.Count.{pattern}
use Rattle.encoder.specs.Encoder as encoder
use Rattle.encoder_count.proofs.Wrap.{pattern_lt}
use Rattle.pwm.specs.declared.Pwm.{Pwm}
use Rattle.pwm.specs.Pwm as pwm
use Rattle.bits.specs.Bits.{num}
use Rattle.i2c.specs.declared.I2c.{I2c}
use Rattle.i2c.specs.I2c as i2c
use Rattle.bank.specs.declared.Bank.{Bank}
use Rattle.bank.specs.Bank as bank
use Rattle.refusals.specs.How.{refusal_of}
use Rattle.bank.proofs.Turns.{passing, turn_passes, turn_refused}
use Rattle.banks.specs.declared.State.{State}
use Rattle.banks.specs.State.{bank_at, with_bank}
use Rattle.walk.specs.Turn.{turn_of}
use Rattle.walk.proofs.Replaying.{by_turn}
use Rattle.image_words.proofs.Numbers.{state_small}
use Rattle.image_words.specs.Words.{FitsI2c, FitsEncoder}
use Rattle.image_pwm.specs.Words.{FitsPwm}
use Rattle.image_pwm.proofs.Numbers.{cnfg_small}
use Rattle.image_state.specs.Image.{FitsBank}
use Rattle.image_state.specs.How.{FitsState}
use Rattle.image_kept.proofs.Keeping.{turn_kept}

-- ---- one register

encoder_small : (register : ℕ) (e : Encoder) → FitsEncoder e → encoder.register_of register e < 2 ^ 64
encoder_small register e f = by (eqb register 0) (eqb register 1)
  where
    by : (a b : Bool) → cond a e.cnfg (cond b e.stat (pattern e.count)) < 2 ^ 64
    by true b = omega (arith, f.1)
    by false true = omega (arith, f.2)
    by false false = omega (arith, pattern_lt e.count)

num_small : (b : Bool) → num b < 2 ^ 64
num_small true = omega arith
num_small false = omega arith

pwm_small : (register : ℕ) (p : Pwm) → FitsPwm p → pwm.register_of register p < 2 ^ 64
pwm_small zero p f = omega (arith, cnfg_small p.registers.cnfg f.2)
pwm_small (suc zero) p f = omega (arith, f.3)
pwm_small (suc (suc zero)) p f = omega (arith, f.0)
pwm_small (suc (suc (suc zero))) p f = omega (arith, f.1)
pwm_small (suc (suc (suc (suc zero)))) p f = omega (arith, f.4)
pwm_small (suc (suc (suc (suc (suc register))))) p f = num_small p.wave.output

i2c_small : (register : ℕ) (c : I2c) → FitsI2c c → i2c.register_of register c < 2 ^ 64
i2c_small register c f = by (eqb register 0) (eqb register 1) (eqb register 3)
  where
    by : (a b d : Bool) → cond a c.addr (cond b c.cntl (cond d (i2c.state_of c.phase) (i2c.failure_number c.failure))) < 2 ^ 64
    by true b d = omega (arith, f.0)
    by false true d = omega (arith, f.1)
    by false false true = omega (arith, state_small c.phase)
    by false false false = omega (arith, f.3)

-- ---- one record: each number of a list is below 2^64

abbrev Small : List ℕ → Type 0
Small vs = (i : ℕ) → get_or vs i 0 < 2 ^ 64

none : Small []
none i = omega arith

one : (v : ℕ) → v < 2 ^ 64 → Small (v ∷ [])
one v h zero = h
one v h (suc i) = none i

both : (vs ws : List ℕ) → Small vs → Small ws → Small (vs ++ ws)
both [] ws p q i = q i
both (v ∷ vs) ws p q zero = p zero
both (v ∷ vs) ws p q (suc i) = both vs ws (λ j. p (suc j)) q i

passes : (e : Edition) (b : Bank) (r : Record) → FitsBank b → Small (given (passing e b r))
passes e b ReadSelect f = one _ (omega (arith, f.select))
passes e b (ReadEncoder i g) f = one _ (encoder_small g (bank.encoder_at i b) (f.encoders.1 i))
passes e b (ReadPwm i g) f = one _ (pwm_small g (bank.pwm_at i b) (f.pwms.1 i))
passes e b (ReadI2c g) f = one _ (i2c_small g b.i2c f.i2c)
passes e b (WriteSelect v) f = none
passes e b (WriteEncoder i v) f = none
passes e b (Pins i v) f = none
passes e b (WritePwm i g v) f = none
passes e b (WriteI2c g v) f = none
passes e b (Answer v) f = none
passes e b (Ticks t) f = none

bank_small : (e : Edition) (b : Bank) (r : Record) → FitsBank b → Small (given (bank.turn_of e b r))
bank_small e b r f = by (refusal_of e b.select b.i2c r) refl
  where
    by : (d : Result (Unit {0}) Refusal) → refusal_of e b.select b.i2c r ≡ d → Small (given (bank.turn_of e b r))
    by (Ok u) p = subst (λ (x : Turn Bank ℕ). Small (given x)) (sym (turn_passes e b r p)) (passes e b r f)
    by (Err k) p = subst (λ (x : Turn Bank ℕ). Small (given x)) (sym (turn_refused e b r k p)) none

turn_small : (e : Edition) (s : State) (bytes : List ℕ) → FitsState s → Small (given (turn_of e s bytes))
turn_small e s bytes f =
    by_turn e s bytes (λ t. Small (given t)) (λ n x. none) (λ r x k. none)
    (λ r x k. subst Small (sym (lift_given (with_bank (bank_of bytes) s) (bank.turn_of e (bank_at (bank_of bytes) s) r)))
    (bank_small e (bank_at (bank_of bytes) s) r (f.1 (bank_of bytes) (bank_formed e bytes r x))))

-- ---- and the readings of every run

pub readings_small : (e : Edition) (s : State) (rs : List (List ℕ)) → FitsState s → (i : ℕ) → get_or (run_of (turn_of e) s rs).readings i 0 < 2 ^ 64
readings_small e =
    every_run (turn_of e) (λ s rs x. FitsState s → Small x.readings) (λ s f. none)
    (λ s r rs a ih f. both (given (turn_of e s r)) _ (turn_small e s r f) (ih (turn_kept e s r f)))
    (λ s r rs k e f. none)
