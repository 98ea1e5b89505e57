-- Paper 01, "Rates" and the numbers of refusal 12 to 15, in the paper's order, with paper 02's f): a wanted rate is in whole millihertz, and
-- its answer gives the period too. "PWM and SPI are asked by separate calls": a rule u has the numbers of one of them. A pair is a divider
-- choice c and X. Assumes nothing.
use Rattle.std.specs.Prelude.{◌≡◌, cond, ◌||◌, ℕ, ◌+◌, ◌-◌, ◌*◌, ◌≤◌, ◌<◌, ltb, Result, Ok, Err}
use Rattle.divider.specs.Divider.{divider_of}
use Rattle.rate.specs.declared.Rule.{Rule}
use Rattle.rate.specs.declared.Pair.{Pair}
use Rattle.rate.specs.declared.Ratio.{Ratio}
use Rattle.refused.specs.declared.Refusal.{Refusal}
use Rattle.refused.specs.Number.{number}

-- in a unit of which k are a hertz: "PWM: 40 to 40,000 Hz, period P = N(X+1) ticks", of a clock with 40,000,000 ticks a second; with k 1,000
-- "whole millihertz, 40,000 to 40,000,000 for PWM"
abbrev pub pwm : ℕ → Rule
pwm k = record { hertz = 40_000_000; clock = k * 40_000_000; low = k * 40; high = k * 40_000; base = 1 }

-- "SPI: 40 to 4,000,000 Hz, P = 2N(X+1)"; "40,000 to 4,000,000,000 for SPI"
abbrev pub spi : ℕ → Rule
spi k = record { hertz = 40_000_000; clock = k * 40_000_000; low = k * 40; high = k * 4_000_000; base = 2 }

abbrev pub InRange : Rule → ℕ → Type 0
InRange u f = (u.low ≤ f) × (f ≤ u.high)

-- P, with "N as above": the divider of the choice, which is one rule for PWM and SPI
abbrev pub period : Rule → ℕ → ℕ → ℕ
period u c x = u.base * divider_of c * (x + 1)

-- "X is 0 to 65,535", "Divider choices 1 to 7 mean N = 1 to 64 as for CS, for SPI too"
abbrev pub IsPair : ℕ → ℕ → Type 0
IsPair c x = (1 ≤ c) × (c ≤ 7) × (x ≤ 65_535)

-- "From registers the rate is the fraction 40,000,000/P, returned as the numbers 40,000,000 and P, with no range check but 15": a "divider choice 0 or
-- above 7, or X above 65,535". The refusal, 0 for none, and the fraction's two numbers, 0 beside a refusal
abbrev pub rate_of : Rule → ℕ → ℕ → ℕ × ℕ × ℕ
rate_of u c x = cond (ltb c 1 || (ltb 7 c || ltb 65_535 x)) (15, 0, 0) (0, u.hertz, period u c x)

-- the numbers of such an answer
abbrev pub rated_numbers : Result Ratio Refusal → ℕ × ℕ × ℕ
rated_numbers (Ok r) = (0, r.clock, r.period)
rated_numbers (Err k) = (number k, 0, 0)

-- |a - b|
abbrev pub apart : ℕ → ℕ → ℕ
apart a b = (a - b) + (b - a)

-- "the error is |40,000,000/P - f|", "the same with f/1,000 for f". To compare P's error with Q's, both are taken 1,000 PQ times. With C for
-- the clock's rate in millihertz, |40,000,000/P - f/1,000| 1,000 PQ = |C - fP| Q
abbrev pub error : ℕ → ℕ → ℕ → ℕ → ℕ
error C f P Q = apart C (f * P) * Q

-- "within tolerance means 1,000,000 times |40,000,000 - fP| is at most tol times fP", with f/1,000 for f and both sides 1,000 times
abbrev pub Within : ℕ → ℕ → ℕ → ℕ → Type 0
Within C f tol P = 1_000_000 * apart C (f * P) ≤ tol * (f * P)

-- "Least error wins, then smaller P, then smaller N": P, made with N, loses to Q, made with M, in none of the three
pub record AsGood (C f P N Q M : ℕ) : Type 0 where
  pub near : error C f P Q ≤ error C f Q P
  pub small : error C f P Q ≡ error C f Q P → P ≤ Q
  pub fine : error C f P Q ≡ error C f Q P → P ≡ Q → N ≤ M

-- a pair within the tolerance, and as good as each pair that there is
pub record Wins (u : Rule) (f tol c x : ℕ) : Type 0 where
  pub pair : IsPair c x
  pub within : Within u.clock f tol (period u c x)
  pub best : (d y : ℕ) → IsPair d y → AsGood u.clock f (period u c x) (divider_of c) (period u d y) (divider_of d)

-- What may be answered to a request, in numbers: the refusal, 0 for none, the divider choice, X and the period. "Checks go in this order; ..
-- for a rate 12, 13, 14", "Rate refusals return the number alone".
pub data Outcome (u : Rule) (f tol : ℕ) : ℕ × ℕ × ℕ × ℕ → Type 0 where
  -- 12: "rate out of range"
  outside : (InRange u f → ⊥) → Outcome u f tol (12, 0, 0, 0)
  -- 13: "tolerance above 1,000,000"
  loose : InRange u f → 1_000_000 < tol → Outcome u f tol (13, 0, 0, 0)
  -- 14: "no pair within tolerance", of all that there are
  none : InRange u f → tol ≤ 1_000_000 → ((d y : ℕ) → IsPair d y → Within u.clock f tol (period u d y) → ⊥) → Outcome u f tol (14, 0, 0, 0)
  -- "The pair is answered as divider choice and X", "answers also give the period P"
  pair : {c x : ℕ} → InRange u f → tol ≤ 1_000_000 → Wins u f tol c x → Outcome u f tol (0, c, x, period u c x)

-- the numbers of an answer
abbrev pub found_numbers : Result Pair Refusal → ℕ × ℕ × ℕ × ℕ
found_numbers (Ok p) = (0, p.choice, p.x, p.period)
found_numbers (Err k) = (number k, 0, 0, 0)

abbrev pub Answer : Rule → ℕ → ℕ → Result Pair Refusal → Type 0
Answer u f tol r = Outcome u f tol (found_numbers r)
