-- What one record of edition 3 does to a bank.
-- Assumes nothing.
use mathlib.Core.Path.{◌≡◌, refl, ap, ◌∙◌}
use mathlib.Core.Bool.{Bool, true, false, cond, ◌&&◌, false≢true}
use Prim.Native.Nat.{ℕ}
use Rattle.laws.proofs.Each.{each_keeps, set_keeps, fresh_keeps}
use Rattle.refused.specs.declared.Refusal.{Refusal}
use Rattle.refused.specs.declared.Refusal.TheVariants.{NotRouted, WrongSelect, StepAndDirection}
use Rattle.fold.specs.Turn.{Turn, goes, reads, refused, lift, applies, leaves}
use Rattle.edition.specs.Edition.{edition_of}
use Rattle.records.specs.declared.Record.{Record}
use Rattle.records.specs.declared.Record.TheVariants.{WriteSelect, WriteEncoder, WritePwm, WriteI2c, Answer, ReadSelect, ReadEncoder, ReadPwm, ReadI2c, Pins, Ticks}
use Rattle.select.specs.Select.{allowed, encoder_routed, pwm_routed, i2c_routed}
use Rattle.encoder.specs.declared.Encoder.{Encoder}
use Rattle.encoder.specs.Encoder as encoder
use Rattle.encoder.proofs.Counting.{pins_cnfg}
use Rattle.pwm.specs.Pwm as pwm
use Rattle.i2c.specs.declared.I2c.{I2c}
use Rattle.i2c.specs.I2c as i2c
use Rattle.bank.specs.declared.Bank.{Bank}
use Rattle.bank.specs.Bank.{fresh, encoder_at, with_encoder, pwm_at, with_pwm, with_i2c, reroute, on_select, turn_of}

-- ---- as edition 2

unbarred : (routed mode : Bool) (t : Turn Bank ℕ) → applies (cond (routed && mode) (refused StepAndDirection) t) ≡ true → t ≡ cond (routed && mode) (refused StepAndDirection) t
unbarred true true t a = absurd (false≢true a)
unbarred true false t a = refl
unbarred false mode t a = refl

unmoded : (routed : Bool) (t : Turn Bank ℕ) → cond (routed && false) (refused StepAndDirection) t ≡ t
unmoded true t = refl
unmoded false t = refl

pub as_two : (b : Bank) (r : Record) → applies (turn_of (edition_of 3) b r) ≡ true → turn_of (edition_of 2) b r ≡ turn_of (edition_of 3) b r
unfolding turn_of
as_two b (WriteSelect v) a = refl
as_two b (WriteEncoder i v) a = unmoded (encoder_routed false b.select i) _ ∙ unbarred (encoder_routed false b.select i) (encoder.mode v) _ a
as_two b (Pins i v) a = refl
as_two b (WritePwm i g v) a = refl
as_two b (WriteI2c g v) a = refl
as_two b (Answer v) a = refl
as_two b (Ticks t) a = refl
as_two b ReadSelect a = refl
as_two b (ReadEncoder i g) a = refl
as_two b (ReadPwm i g) a = refl
as_two b (ReadI2c g) a = refl

-- ---- MODE 0

-- no encoder's CNFG has MODE 1
abbrev pub Moded : Bank → Type 0
Moded b = (i : ℕ) → encoder.mode (encoder_at i b).cnfg ≡ false

abbrev Plain : Encoder → Type 0
Plain e = encoder.mode e.cnfg ≡ false

if_goes : (b c : Bank) (n : Refusal) (test : Bool) → Moded b → Moded c → Moded (leaves {A = ℕ} b (cond test (goes c) (refused n)))
if_goes b c n true h k = k
if_goes b c n false h k = h

lifted : (b : Bank) (n : Refusal) (test : Bool) (t : Turn I2c ℕ) → Moded b → Moded (leaves b (cond test (lift (with_i2c b) t) (refused n)))
lifted b n true (goes c) h = h
lifted b n true (reads v) h = h
lifted b n true (refused k) h = h
lifted b n false t h = h

one_encoder : (i : ℕ) (b : Bank) (e : Encoder) → Plain e → Moded b → Moded (with_encoder i b e)
one_encoder i b e p h = set_keeps Plain encoder.fresh b.encoders i e p h

barred : (b c : Bank) (routed mode : Bool) → (mode ≡ false → Moded c) → Moded b
    → Moded (leaves {A = ℕ} b (cond (routed && mode) (refused StepAndDirection) (cond routed (goes c) (refused NotRouted))))
barred b c true true k h = h
barred b c true false k h = k refl
barred b c false mode k h = h

pub moded_first : Moded fresh
unfolding fresh
moded_first = fresh_keeps Plain encoder.fresh refl 10

pub moded_next : (b : Bank) (r : Record) → Moded b → Moded (leaves b (turn_of (edition_of 3) b r))
unfolding turn_of
moded_next b (WriteSelect v) h = if_goes b (on_select false v b) WrongSelect (allowed false v) h (each_keeps Plain encoder.fresh (reroute false b.select v) (λ i e p. p) 0 b.encoders h)
moded_next b (WriteEncoder i v) h =
    barred b (with_encoder i b (encoder.on_cnfg v (encoder_at i b))) (encoder_routed false b.select i) (encoder.mode v) (λ p. one_encoder i b _ p h) h
moded_next b (Pins i v) h =
    let e = encoder_at i b in
    if_goes b (with_encoder i b (encoder.on_pins v e)) NotRouted (encoder_routed false b.select i) h (one_encoder i b (encoder.on_pins v e) (ap encoder.mode (pins_cnfg v e) ∙ h i) h)
moded_next b (WritePwm i g v) h = if_goes b (with_pwm i b (pwm.on_write g v (pwm_at i b))) NotRouted (pwm_routed false b.select i) h h
moded_next b (WriteI2c g v) h = lifted b NotRouted (i2c_routed false b.select) (i2c.write_turn g v b.i2c) h
moded_next b (Answer v) h = lifted b NotRouted (i2c_routed false b.select) (goes (i2c.on_answer v b.i2c)) h
moded_next b (Ticks t) h = h
moded_next b ReadSelect h = h
moded_next b (ReadEncoder i g) h = h
moded_next b (ReadPwm i g) h = h
moded_next b (ReadI2c g) h = h
