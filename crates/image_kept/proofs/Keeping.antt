-- A record leaves every register in its range: the state of a stream has an image, after any records too.
-- Assumes nothing.
use mathlib.Core.Path.{◌≡◌, refl, sym, ◌∙◌, subst}
use mathlib.Core.Bool.{true}
use mathlib.Core.List.{List}
use mathlib.Core.Logic.{inl, inr}
use Prim.Native.Nat.{ℕ, ◌<◌}
use native.Mathlib.Omega.{arith}
use lib.ListN.{length-set}
use borrow.Author.Tests.{le-leb, ne_eqb}
use Rattle.laws.proofs.Each.{length_each, each_keeps, set_keeps, fresh_keeps}
use Rattle.fold.specs.Turn.{Turn, leaves}
use Rattle.fold.specs.Run.{Course, going, stopped, run_of}
use Rattle.refused.specs.Number.{number, number_of}
use Rattle.refused.specs.declared.Refusal.{Refusal}
use Rattle.std.proofs.Common.{Result, Ok, Err}
use Rattle.fold.specs.Output as output
use Rattle.fold.proofs.Laws.{keeps}
use Rattle.edition.specs.declared.Edition.{Edition}
use Rattle.wire.specs.Decode.{bank_of}
use Rattle.records.specs.declared.Record.{Record}
use Rattle.records.specs.declared.Record.TheVariants.{WriteSelect, WriteEncoder, WritePwm, WriteI2c, Answer, ReadSelect, ReadEncoder, ReadPwm, ReadI2c, Pins, Ticks}
use Rattle.wire.proofs.Formed.{Formed, formed, bank_formed}
use Rattle.encoder.specs.declared.Encoder.{Encoder}
use Rattle.encoder.specs.Encoder as encoder
use Rattle.pwm.specs.declared.Pwm.{Pwm}
use Rattle.pwm.specs.Pwm as pwm
use Rattle.i2c.specs.declared.I2c.{I2c}
use Rattle.select.specs.Select.{encoder_routed, pwm_routed}
use Rattle.bank.specs.declared.Bank.{Bank}
use Rattle.bank.specs.Bank as bank
use Rattle.bank.specs.Bank.{encoder_at, with_encoder, pwm_at, with_pwm, with_i2c, reroute, tick_routed}
use Rattle.refusals.specs.How.{refusal_of}
use Rattle.walk.proofs.Numbers.{Number, run_number}
use Rattle.bank.proofs.Turns.{passing, turn_passes, turn_refused}
use Rattle.banks.specs.declared.State.{State}
use Rattle.banks.specs.State.{fresh, bank_at}
use Rattle.banks.proofs.Whole.{Both, holds_first, holds_one, holds_both}
use Rattle.walk.specs.Turn.{turn_of}
use Rattle.walk.proofs.Replaying.{by_turn}
use Rattle.image_words.specs.Words.{FitsI2c, FitsEncoder}
use Rattle.image_pwm.specs.Words.{FitsPwm}
use Rattle.image_state.specs.Image.{FitsBank}
use Rattle.image_state.specs.How.{is_refusal, FitsState}
use Rattle.image_kept.proofs.Blocks.{fresh_encoder, on_select_lem, on_cnfg_lem, on_pins_lem, fresh_pwm, on_write_lem, on_ticks_lem, fresh_i2c, on_i2c, on_answer_lem}

-- ---- one bank

one_encoder : (i : ℕ) (b : Bank) (e : Encoder) → FitsEncoder e → FitsBank b → FitsBank (with_encoder i b e)
one_encoder i b e g f = record {
  select = f.select;
  i2c = f.i2c;
  encoders = (length-set b.encoders i e ∙ f.encoders.0, set_keeps FitsEncoder encoder.fresh b.encoders i e g f.encoders.1);
  pwms = f.pwms;
}

one_pwm : (i : ℕ) (b : Bank) (p : Pwm) → FitsPwm p → FitsBank b → FitsBank (with_pwm i b p)
one_pwm i b p g f = record {
  select = f.select;
  i2c = f.i2c;
  encoders = f.encoders;
  pwms = (length-set b.pwms i p ∙ f.pwms.0, set_keeps FitsPwm pwm.fresh b.pwms i p g f.pwms.1);
}

the_i2c : (b : Bank) (c : I2c) → FitsI2c c → FitsBank b → FitsBank (with_i2c b c)
the_i2c b c g f = record { select = f.select; i2c = g; encoders = f.encoders; pwms = f.pwms }

passes : (e : Edition) (b : Bank) (s : List ℕ) (r : Record) → Formed s r → FitsBank b → FitsBank (leaves b (passing e b r))
passes e b s (WriteSelect v) m f = record {
  select = m.1;
  i2c = f.i2c;
  encoders = (length_each (reroute e.port b.select v) 0 b.encoders ∙ f.encoders.0, each_keeps FitsEncoder encoder.fresh (reroute e.port b.select v) (λ i x. on_select_lem (encoder_routed e.port b.select i) (encoder_routed e.port v i) x) 0 b.encoders f.encoders.1);
  pwms = f.pwms;
}
passes e b s (WriteEncoder i v) m f = one_encoder i b _ (on_cnfg_lem v (encoder_at i b) m.2 (f.encoders.1 i)) f
passes e b s (Pins i v) m f = one_encoder i b _ (on_pins_lem v (encoder_at i b) m.2 (f.encoders.1 i)) f
passes e b s (WritePwm i g v) m f = one_pwm i b _ (on_write_lem g v (pwm_at i b) m.2 m.3 (f.pwms.1 i)) f
passes e b s (WriteI2c g v) m f = the_i2c b _ (on_i2c g v b.i2c m.1 m.2 f.i2c) f
passes e b s (Answer v) m f = the_i2c b _ (on_answer_lem v b.i2c m.1 f.i2c) f
passes e b s (Ticks t) m f = record {
  select = f.select;
  i2c = f.i2c;
  encoders = f.encoders;
  pwms = (length_each (tick_routed e b.select t) 0 b.pwms ∙ f.pwms.0, each_keeps FitsPwm pwm.fresh (tick_routed e b.select t) (λ i p. on_ticks_lem e.runs (pwm_routed e.port b.select i) t p) 0 b.pwms f.pwms.1);
}
passes e b s ReadSelect m f = f
passes e b s (ReadEncoder i g) m f = f
passes e b s (ReadPwm i g) m f = f
passes e b s (ReadI2c g) m f = f

bank_kept : (e : Edition) (b : Bank) (s : List ℕ) (r : Record) → Formed s r → FitsBank b → FitsBank (leaves b (bank.turn_of e b r))
bank_kept e b s r m f = by (refusal_of e b.select b.i2c r) refl
  where
    by : (d : Result (Unit {0}) Refusal) → refusal_of e b.select b.i2c r ≡ d → FitsBank (leaves b (bank.turn_of e b r))
    by (Ok u) p = subst (λ (x : Turn Bank ℕ). FitsBank (leaves b x)) (sym (turn_passes e b r p)) (passes e b s r m f)
    by (Err k) p = subst (λ (x : Turn Bank ℕ). FitsBank (leaves b x)) (sym (turn_refused e b r k p)) f

bank_first : FitsBank bank.fresh
unfolding bank.fresh
bank_first = record {
  select = omega arith;
  i2c = fresh_i2c;
  encoders = (refl, fresh_keeps FitsEncoder encoder.fresh fresh_encoder 10);
  pwms = (refl, fresh_keeps FitsPwm pwm.fresh fresh_pwm 20);
}

-- ---- both

to_both : (s : State) → FitsState s → Both FitsBank s
to_both s f = record { two = f.0; each = f.1 }

from_both : (s : State) → Both FitsBank s → FitsState s
from_both s f = (f.two, f.each)

pub state_first : FitsState fresh
state_first = from_both fresh (holds_first FitsBank bank_first)

pub turn_kept : (e : Edition) (s : State) (bytes : List ℕ) → FitsState s → FitsState (leaves s (turn_of e s bytes))
turn_kept e s bytes f =
    let w = to_both s f in
    from_both _
    (by_turn e s bytes (λ t. Both FitsBank (leaves s t)) (λ n x. w) (λ r x k. holds_both FitsBank (λ b. leaves b (bank.turn_of e b r)) s (λ b. bank_kept e b bytes r (formed e bytes r x)) w)
    (λ r x k. holds_one FitsBank (bank_of bytes) s (bank.turn_of e (bank_at (bank_of bytes) s) r) (bank_kept e (bank_at (bank_of bytes) s) bytes r (formed e bytes r x) (w.each (bank_of bytes) (bank_formed e bytes r x))) w))

pub run_kept : (e : Edition) (s : State) (rs : List (List ℕ)) → FitsState s → FitsState (run_of (turn_of e) s rs).state
run_kept e s rs f = keeps (turn_of e) FitsState (λ t r. turn_kept e t r) s rs f

-- ---- what stops a run is a refusal of a record

-- 7 to 11, or 16, or 18
by_range : (n : ℕ) → 6 < n → n < 12 → is_refusal n ≡ true
by_range n h k = rw (ne_eqb n 0 (λ x. omega arith), le-leb 7 n (omega arith), le-leb n 11 (omega arith))

by_number : (k : Refusal) → Number k → is_refusal (number k) ≡ true
by_number k (inl p) = by_range (number k) p.0 p.1
by_number k (inr (inl e)) = rw e
by_number k (inr (inr e)) = rw e

by_course : (c : Course) → ((k : Refusal) → c ≡ stopped k → is_refusal (number k) ≡ true) → is_refusal (number_of (output.refusal_of c)) ≡ true
by_course going h = refl
by_course (stopped k) h = h k refl

pub run_refusal : (e : Edition) (s : State) (rs : List (List ℕ)) → is_refusal (number_of (output.refusal_of (run_of (turn_of e) s rs).course)) ≡ true
run_refusal e s rs = by_course (run_of (turn_of e) s rs).course (λ k h. by_number k (run_number e s rs k h))
