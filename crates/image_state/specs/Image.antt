-- A stream's state in 864 bytes, in words of 8, least byte first; channel i of bank k of n is the one of number n * k + i.
--   0 byte 0 the refusal, byte 1 how many bytes are carried, byte 2 the edition, others 0
--   8 the applied number   16 the carried bytes, 16 of them, 0 past those that are
--   32 + 8 k SELECT   48 + 8 k I2C   64 + 8 (10 k + i) encoder   224 + 16 (20 k + i) PWM channel, two words
-- Assumes nothing.
use Rattle.std.specs.Prelude.{ℕ, ◌-◌, ◌^◌, ◌<◌, ◌≡◌, true, cond, ◌&&◌, ◌||◌, length, take, replicate, eqb, leb}
use mathlib.Core.List.{List, ◌∷◌, ◌++◌, map, flatten}
use Rattle.numbers.specs.Bytes.{byte, le_bytes}
use Rattle.edition.specs.Edition.{known}
use Rattle.bank.specs.declared.Bank.{Bank}
use Rattle.bank.specs.Bank.{encoder_at, pwm_at}
use Rattle.banks.specs.State.{bank_at}
use Rattle.live_state.specs.Live.{Live}
use Rattle.image_words.specs.Words.{i2c_bytes, FitsI2c, encoder_bytes, FitsEncoder}
use Rattle.image_pwm.specs.Words.{pwm_bytes, FitsPwm}

-- RVZ_STREAM_BYTES
abbrev pub size : ℕ
size = 864

unfoldable pub image_of : Live → List ℕ
image_of l = let all : (Bank → List ℕ) → List ℕ = λ f. flatten (map f l.state.banks) in
    (l.refused ∷ length l.carried ∷ le_bytes 6 l.edition)
    ++ le_bytes 8 l.applied
    ++ l.carried ++ replicate (16 - length l.carried) 0
    ++ all (λ b. le_bytes 8 b.select)
    ++ all (λ b. i2c_bytes b.i2c)
    ++ all (λ b. flatten (map encoder_bytes b.encoders))
    ++ all (λ b. flatten (map pwm_bytes b.pwms))

-- ---- the streams that have an image: every register in its range

pub record FitsBank (b : Bank) : Type 0 where
  -- "Bits 40 to 63 set is refusal 8"
  pub select : b.select < 2 ^ 40
  pub i2c : FitsI2c b.i2c
  pub encoders : (length b.encoders ≡ 10) × ((i : ℕ) → FitsEncoder (encoder_at i b))
  pub pwms : (length b.pwms ≡ 20) × ((i : ℕ) → FitsPwm (pwm_at i b))

pub record Fits (l : Live) : Type 0 where
  pub edition : known l.edition ≡ true
  -- the refusals that a record can give, or none
  pub refused : (eqb l.refused 0 || ((leb 7 l.refused && leb l.refused 11) || (eqb l.refused 16 || eqb l.refused 18))) ≡ true
  -- "up to 15 bytes of an unfinished record are carried"; after a refused record none
  pub held : length l.carried < cond (eqb l.refused 0) 16 1
  pub carried : (i : ℕ) → byte l.carried i < 256
  pub applied : l.applied < 2 ^ 64
  pub banks : (length l.state.banks ≡ 2) × ((k : ℕ) → k < 2 → FitsBank (bank_at k l.state))

-- a stream stands in bytes: they begin with its image
abbrev pub Stands : List ℕ → Live → Type 0
Stands s l = Fits l × (image_of l ≡ take size s)
