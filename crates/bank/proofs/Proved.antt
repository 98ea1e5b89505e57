-- The fact of specs/Facts.antt.
-- Assumes nothing.
use mathlib.Core.Path.{◌≡◌, sym, ap, ◌∙◌}
use mathlib.Core.Bool.{Bool, true, false, cond}
use Prim.Native.Nat.{ℕ}
use native.Mathlib.Omega.{arith}
use lib.Seq.{get_or-set_other}
use Rattle.encoder.specs.declared.Encoder.{Encoder}
use Rattle.encoder.specs.Encoder as encoder
use Rattle.pwm.specs.declared.Pwm.{Pwm}
use Rattle.pwm.specs.Pwm as pwm
use Rattle.refused.specs.declared.Refusal.TheVariants.{NotRouted}
use Rattle.fold.specs.Turn.{Turn, goes, refused}
use Rattle.select.specs.Select.{encoder_routed, pwm_routed}
use Rattle.bank.specs.declared.Bank.{Bank}
use Rattle.bank.specs.Bank.{encoder_at, pwm_at, with_encoder, with_pwm, to_encoder, to_pwm}
use Rattle.bank.specs.Facts.{Only}

-- where a test lets it go to d it has gone to d
gone : (test : Bool) (c d : Bank) → ◌≡◌ {A = Turn Bank ℕ} (cond test (goes d) (refused NotRouted)) (goes c) → d ≡ c
gone true c d e = cc
gone false c d e = let z : ◌≡◌ {A = ℕ} 0 1 = cc in absurd (omega arith)

pub only : Only
only port i j b c other = (on_encoder, on_pwm)
  where
    on_encoder : (f : Encoder → Encoder) → to_encoder port i f b ≡ goes c → encoder_at j c ≡ encoder_at j b
    on_encoder f e =
        ap (encoder_at j) (sym (gone (encoder_routed port b.select i) c (with_encoder i b (f (encoder_at i b))) e))
        ∙ get_or-set_other b.encoders i j (f (encoder_at i b)) encoder.fresh other

    on_pwm : (f : Pwm → Pwm) → to_pwm port i f b ≡ goes c → pwm_at j c ≡ pwm_at j b
    on_pwm f e =
        ap (pwm_at j) (sym (gone (pwm_routed port b.select i) c (with_pwm i b (f (pwm_at i b))) e))
        ∙ get_or-set_other b.pwms i j (f (pwm_at i b)) pwm.fresh other
