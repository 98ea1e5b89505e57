-- No record of edition 4 is refused by 10.
-- Assumes nothing.
use mathlib.Core.Path.{◌≡◌, sym, ap, ◌∙◌}
use mathlib.Core.Bool.{Bool, true, false, cond, ◌&&◌, false≢true}
use mathlib.Core.List.{List}
use Prim.Native.Nat.{ℕ}
use native.Mathlib.Omega.{arith}
use lib.Dec.{eqb}
use Rattle.refused.specs.Number.{number}
use Rattle.refused.specs.declared.Refusal.{Refusal}
use Rattle.refused.specs.declared.Refusal.TheVariants.{NotRouted, WrongSelect, WrongControl, StopAfterAck, StepAndDirection}
use Rattle.fold.specs.Turn.{Turn, goes, refused, lift, applies}
use Rattle.edition.specs.Edition.{edition_of}
use Rattle.wire.specs.Decode.{bank_of}
use Rattle.records.specs.declared.Record.{Record}
use Rattle.records.specs.declared.Record.TheVariants.{WriteSelect, WriteEncoder, WritePwm, WriteI2c, Answer, ReadSelect, ReadEncoder, ReadPwm, ReadI2c, Pins, Ticks}
use Rattle.wire.proofs.Formed.{refused_by_lem}
use Rattle.select.specs.Select.{encoder_routed, pwm_routed, i2c_routed}
use Rattle.i2c.specs.declared.I2c.{I2c}
use Rattle.i2c.specs.I2c as i2c
use Rattle.bank.specs.declared.Bank.{Bank}
use Rattle.bank.specs.Bank.{with_i2c, turn_of}
use Rattle.banks.specs.declared.State.{State}
use Rattle.banks.specs.State.{bank_at, with_bank}
use Rattle.walk.specs.Turn as walk
use Rattle.fold.proofs.Turns.{lift_refused}
use Rattle.walk.proofs.Replaying.{by_turn}

abbrev Ten : Turn Bank ℕ → Type 0
Ten t = t ≡ refused WrongSelect → ⊥

went : {S : Type 0} (s : S) (k : Refusal) → ◌≡◌ {A = Turn S ℕ} (goes s) (refused k) → ⊥
went s k h = false≢true (sym (ap applies h))

other : (n : Refusal) → (n ≡ WrongSelect → ⊥) → Ten (refused n)
other n d h = let same : n ≡ WrongSelect = cc in d same

by_nine : (routed : Bool) (c : Bank) → Ten (cond routed (goes c) (refused NotRouted))
by_nine true c = went c WrongSelect
by_nine false c = other NotRouted (λ e. omega (arith, ap number e))

by_cnfg : (routed : Bool) (c : Bank) → Ten (cond (routed && false) (refused StepAndDirection) (cond routed (goes c) (refused NotRouted)))
by_cnfg true c = went c WrongSelect
by_cnfg false c = other NotRouted (λ e. omega (arith, ap number e))

by_i2c : (routed addr cntl may bars : Bool) (b : Bank) (x y z : I2c)
    → Ten (cond routed (lift {A = ℕ} (with_i2c b) (cond addr (goes x) (cond cntl (goes y) (cond may (cond bars (refused StopAfterAck) (goes z)) (refused WrongControl))))) (refused NotRouted))
by_i2c false addr cntl may bars b x y z = other NotRouted (λ e. omega (arith, ap number e))
by_i2c true true cntl may bars b x y z = went (with_i2c b x) WrongSelect
by_i2c true false true may bars b x y z = went (with_i2c b y) WrongSelect
by_i2c true false false true true b x y z = other StopAfterAck (λ e. omega (arith, ap number e))
by_i2c true false false true false b x y z = went (with_i2c b z) WrongSelect
by_i2c true false false false bars b x y z = other WrongControl (λ e. omega (arith, ap number e))

no_ten : (b : Bank) (r : Record) → Ten (turn_of (edition_of 4) b r)
unfolding turn_of
no_ten b (WriteSelect v) = went _ WrongSelect
no_ten b (WriteEncoder i v) = by_cnfg (encoder_routed true b.select i) _
no_ten b (Pins i v) = by_nine (encoder_routed true b.select i) _
no_ten b (WritePwm i g v) = by_nine (pwm_routed true b.select i) _
no_ten b (WriteI2c g v) =
    by_i2c (i2c_routed true b.select) (eqb g 0) (eqb g 1) (i2c.allowed b.i2c.phase (i2c.code b.i2c))
    (i2c.forbidden b.i2c.phase b.i2c.acknowledged (i2c.code b.i2c)) b _ _ _
no_ten b (Answer v) = by_nine (i2c_routed true b.select) (with_i2c b (i2c.on_answer v b.i2c))
no_ten b (Ticks t) = went _ WrongSelect
no_ten b ReadSelect = λ h. false≢true (sym (ap applies h))
no_ten b (ReadEncoder i g) = λ h. false≢true (sym (ap applies h))
no_ten b (ReadPwm i g) = λ h. false≢true (sym (ap applies h))
no_ten b (ReadI2c g) = λ h. false≢true (sym (ap applies h))

pub record_no_ten : (s : State) (bytes : List ℕ) (k : Refusal) → walk.turn_of (edition_of 4) s bytes ≡ refused k → k ≡ WrongSelect → ⊥
record_no_ten s bytes k =
    by_turn (edition_of 4) s bytes (λ t. t ≡ refused k → k ≡ WrongSelect → ⊥)
    (λ n e h ten. let same : n ≡ k = cc in omega (arith, refused_by_lem (edition_of 4) bytes n e, ap number (same ∙ ten)))
    (λ r e four h ten. false≢true (sym (ap applies h)))
    (λ r e four h ten. no_ten (bank_at (bank_of bytes) s) r (lift_refused (with_bank (bank_of bytes) s) _ k h ∙ ap refused ten))
