-- What is shown of one record's turn, for any channel at once.
-- Assumes nothing.
use Rattle.std.specs.Prelude.{ℕ, ◌≡◌, Bool}
use Rattle.fold.specs.Turn.{goes}
use Rattle.encoder.specs.declared.Encoder.{Encoder}
use Rattle.pwm.specs.declared.Pwm.{Pwm}
use Rattle.bank.specs.declared.Bank.{Bank}
use Rattle.bank.specs.Bank.{encoder_at, pwm_at, to_encoder, to_pwm}

-- what happens to encoder i, or to PWM channel i, leaves every other one as it was (`with_encoder`, `with_pwm` leave all else)
abbrev pub Only : Type 0
Only = (port : Bool) (i j : ℕ) (b c : Bank) → (j ≡ i → ⊥) → ((f : Encoder → Encoder) → to_encoder port i f b ≡ goes c → encoder_at j c ≡ encoder_at j b)
    × ((f : Pwm → Pwm) → to_pwm port i f b ≡ goes c → pwm_at j c ≡ pwm_at j b)
