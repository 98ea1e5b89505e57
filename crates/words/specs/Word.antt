-- Every answer for C is one number of 64 bits. Its low byte is the refusal, 0 if none. Assumes nothing.
use Rattle.std.specs.Prelude.{◌≡◌, List, ℕ, ◌/◌, ◌%◌, ◌^◌}
use Rattle.rate.specs.Rate.{pwm, spi, Outcome}
use Rattle.transcript.specs.Judge.{Judged}

-- of a call on a log or a stream: bits 8 up are one more number
pub record Word (refused number w : ℕ) : Type 0 where
  pub refusal : w % 2 ^ 8 ≡ refused
  pub above : w / 2 ^ 8 ≡ number

-- a verdict: the refusal, bits 8-15 the verdict, 16 up the index
abbrev pub judged_in : ℕ → ℕ × ℕ × ℕ
judged_in w = (w % 2 ^ 8, w / 2 ^ 8 % 2 ^ 8, w / 2 ^ 16)

-- an answer to a request for a rate: the refusal, bits 8-15 the divider choice, 16-31 X, 32-63 the period P
abbrev pub found_in : ℕ → ℕ × ℕ × ℕ × ℕ
found_in w = (w % 2 ^ 8, w / 2 ^ 8 % 2 ^ 8, w / 2 ^ 16 % 2 ^ 16, w / 2 ^ 32)

-- a rate: the refusal, bits 32-63 the clock's 40,000,000, 8-31 the period P
abbrev pub rated_in : ℕ → ℕ × ℕ × ℕ
rated_in w = (w % 2 ^ 8, w / 2 ^ 32, w / 2 ^ 8 % 2 ^ 24)

-- "Any two outcomes allowed by a contract are proved the same": numbers that say the same are the same
pub record WordsSettled : Type 0 where
  pub word : (k n v w : ℕ) → Word k n v → Word k n w → v ≡ w
  pub judged : (log ts : List ℕ) (v w : ℕ) → Judged log ts (judged_in v) → Judged log ts (judged_in w) → v ≡ w
  pub found_pwm : (f tol v w : ℕ) → Outcome (pwm 1_000) f tol (found_in v) → Outcome (pwm 1_000) f tol (found_in w) → v ≡ w
  pub found_spi : (f tol v w : ℕ) → Outcome (spi 1_000) f tol (found_in v) → Outcome (spi 1_000) f tol (found_in w) → v ≡ w
  pub rated : (v w : ℕ) → rated_in v ≡ rated_in w → v ≡ w
