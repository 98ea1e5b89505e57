-- The facts of specs/Facts.antt.
-- Assumes nothing.
use mathlib.Core.Path.{◌≡◌, refl, sym, ap, ◌∙◌}
use mathlib.Core.Bool.{Bool, true, false, not, cond, ◌&&◌, and-false}
use Prim.Native.Nat.{ℕ}
use native.Mathlib.Omega.{arith}
use lib.Dec.{eqb}
use Rattle.std.proofs.Common.{Option}
use Rattle.refused.specs.declared.Refusal.{Refusal}
use Rattle.refused.specs.declared.Refusal.TheVariants.{WrongControl, StopAfterAck}
use Rattle.fold.specs.Turn.{Turn, goes, refused}
use Rattle.i2c_code.specs.declared.Failure.{Failure}
use Rattle.i2c_code.specs.declared.Phase.{Phase}
use Rattle.i2c.specs.declared.I2c.{I2c}
use Rattle.i2c_code.specs.declared.Code.{Code}
use Rattle.i2c_code.specs.Code.{code_of, state_of, stop_alone, allowed, forbidden, failure_number}
use Rattle.i2c_code.specs.Facts.{accepts}
use Rattle.i2c.specs.I2c.{code, recalled, ran, go_turn}
use Rattle.i2c.specs.How.{gone}
use Rattle.i2c.specs.Facts.{Recalled, Answered}
use Rattle.i2c_code.proofs.Answers.{all_heard, not_there}

eleven_first : (c : I2c) → allowed c.phase (code c) ≡ false → go_turn c ≡ refused WrongControl
eleven_first c h = rw h

fall_away : (p : Phase) (r c : ℕ) → accepts true p r c ≡ accepts false p r c && not (eqb (state_of p) 2 && stop_alone (code_of r c))
unfolding forbidden
fall_away p r c = less (allowed p (code_of r c)) (not (eqb (state_of p) 2 && stop_alone (code_of r c)))
  where
    less : (may bars : Bool) → (may && bars) ≡ ((may && true) && bars)
    less true bars = refl
    less false bars = refl

abbrev made : Bool → Bool → Bool → Bool → Bool → Code
made receive byte start stop ack = record { receive = receive; byte = byte; start = start; stop = stop; ack = ack }

after_stop : (r b s t a : Bool) → t ≡ true → recalled false (made r b s t a) ≡ false
after_stop true true s t a e = rw e
after_stop false true s t a e = refl
after_stop r false s t a e = refl

after_send : (r b s t a : Bool) → r ≡ false → recalled false (made r b s t a) ≡ false
after_send r true s t a e = rw e
after_send r false s t a e = refl

after_byte : (r b s t a : Bool) → b ≡ true → r ≡ true → t ≡ false → recalled false (made r b s t a) ≡ a
after_byte r b s t a e f g = rw (e, f, g)

-- what is false with no failure is false with any
still : (c : I2c) → recalled false (code c) ≡ false → (ran c).acknowledged ≡ false
still c h = let heard = not (eqb (failure_number (ran c).failure) 1) in ap (λ (b : Bool). heard && b) h ∙ and-false heard

pub recalls : Recalled
recalls = record {
  send = λ c b r. still c (after_send (code c).receive (code c).byte (code c).start (code c).stop (code c).ack r);
  stop = λ c s. still c (after_stop (code c).receive (code c).byte (code c).start (code c).stop (code c).ack s);
  received = λ c b r s f. ap (λ (n : Option Failure). (gone c n).acknowledged) f ∙ after_byte (code c).receive (code c).byte (code c).start (code c).stop (code c).ack b r s;
  fall_away = fall_away;
  eleven_first = eleven_first;
}

-- ---- the slave's answer

refusal_goes : (k : Refusal) (d : I2c) → ◌≡◌ {A = Turn I2c ℕ} (refused k) (goes d) → ⊥
refusal_goes k d h = let z : ◌≡◌ {A = ℕ} 0 1 = cc in omega arith

-- an accepted GO has run
has_run : (may bars : Bool) (d e : I2c) → ◌≡◌ {A = Turn I2c ℕ} (cond may (cond bars (refused StopAfterAck) (goes d)) (refused WrongControl)) (goes e) → d ≡ e
has_run true true d e h = absurd (refusal_goes StopAfterAck e h)
has_run true false d e h = cc
has_run false bars d e h = absurd (refusal_goes WrongControl e h)

pub answered : Answered
answered = record {
  used_up = λ c d e. ap (λ (x : I2c). x.answer) (sym (has_run (allowed c.phase (code c)) (forbidden c.phase c.acknowledged (code c)) (ran c) d e));
  plain = λ c e. ap (gone c) (all_heard c.answer (code c) e);
  address = λ c s b.
      let f = not_there c.answer (code c) s b in
      (f, ap (λ (n : Option Failure). (gone c n).phase) f, ap (λ (n : Option Failure). (gone c n).acknowledged) f);
}
