-- Paper 01, "Sums to check by hand": "Those marked * are proved, together, as a single fact about the rules", in its order.
-- Assumes nothing.
use Rattle.std.specs.Prelude.{ℕ, ◌+◌, ◌-◌, ◌*◌, ◌≡◌, Bool, true, [], ◌∷◌, pos}
use Rattle.rate.specs.Rate.{pwm, spi, Outcome}
use Rattle.rate.specs.Facts.{Gives}
use Rattle.bits.specs.Bits.{bit}
use Rattle.encoder.specs.declared.Encoder.{Encoder}
use Rattle.encoder.specs.Encoder as encoder
use Rattle.encoder.specs.Facts.{played}
use Rattle.pwm.specs.declared.Pwm.{Pwm}
use Rattle.pwm.specs.Pwm as channel

-- a fresh encoder with EN 1
abbrev pub enabled : Encoder
enabled = encoder.on_cnfg 1 encoder.fresh

-- a fresh PWM channel with a CS, MODE 1, MAX 3, CMP 2
abbrev pub started : ℕ → Pwm
started cs = channel.on_write 3 2 (channel.on_write 2 3 (channel.on_write 0 4 (channel.on_write 1 cs channel.fresh)))

-- those of the rates, in a unit of which k are a hertz
pub record RateSums (k : ℕ) : Type 0 where
  -- "PWM 1,000, tol 0: N 1, X 39,999"
  pub pwm_1000 : Gives (pwm k) (k * 1_000) 0 1 39_999
  -- "PWM 40, tol 0: N 16, X 62,499"
  pub pwm_40 : Gives (pwm k) (k * 40) 0 16 62_499
  -- "39 and 40,001: refusal 12"; in millihertz 39,999 and 40,000,001
  pub pwm_39 : Outcome (pwm k) (k * 40 - 1) 0 (12, 0, 0, 0)
  pub pwm_40001 : Outcome (pwm k) (k * 40_000 + 1) 0 (12, 0, 0, 0)
  -- "PWM 610: tol 3 refused 14"
  pub pwm_610_3 : Outcome (pwm k) (k * 610) 3 (14, 0, 0, 0)
  -- "tol 4 gives N 2, X 32,786"
  pub pwm_610_4 : Gives (pwm k) (k * 610) 4 2 32_786
  -- "SPI 4,000,000, tol 0: N 1, X 4"
  pub spi_4000000 : Gives (spi k) (k * 4_000_000) 0 1 4
  -- "SPI 40, tol 0: N 8, X 62,499"
  pub spi_40 : Gives (spi k) (k * 40) 0 8 62_499
  -- "SPI 3,650,000: tol 86,757 refused"
  pub spi_3650000_86757 : Outcome (spi k) (k * 3_650_000) 86_757 (14, 0, 0, 0)
  -- "86,758 gives N 1, X 5"
  pub spi_3650000_86758 : Gives (spi k) (k * 3_650_000) 86_758 1 5

pub record PaperSums : Type 0 where
  -- the rates in hertz, as paper 01 has them, and in millihertz, by the rules of today: "after multiplying by 1,000"
  pub in_hertz : RateSums 1
  pub in_millihertz : RateSums 1_000
  -- "Pins 00, 10, 11, 01, 00: count 4". A is bit 0, so 10 is written 1
  pub pins_forward : (played (0 ∷ 1 ∷ 3 ∷ 2 ∷ 0 ∷ []) enabled).count ≡ pos 4
  -- "Backward: CNTR 4,294,967,292"
  pub pins_backward : encoder.register_of 2 (played (0 ∷ 2 ∷ 3 ∷ 1 ∷ 0 ∷ []) enabled) ≡ 4_294_967_292
  -- "00, 11: count 0, ERR 1"
  pub pins_double : ((played (0 ∷ 3 ∷ []) enabled).count ≡ pos 0) × (bit 1 (played (0 ∷ 3 ∷ []) enabled).stat ≡ true)
  -- by either rule of the counter: "Fresh PWM, CS 1, MODE 1, MAX 3, CMP 2, 5 ticks: counter 1, output 1"
  pub ticks_1 : (runs : Bool) → ((channel.on_ticks runs 5 (started 1)).wave.counter ≡ 1) × ((channel.on_ticks runs 5 (started 1)).wave.output ≡ true)
  -- "CS 2 and 5 ticks: two steps, remainder 1"
  pub ticks_2 : (runs : Bool) → ((channel.on_ticks runs 5 (started 2)).wave.counter ≡ 2) × ((channel.on_ticks runs 5 (started 2)).wave.remainder ≡ 1)
