-- What is shown of the rates, with sums beside those that paper 01 marks, which stand together in the crate `sums`. Assumes nothing.
use Rattle.std.specs.Prelude.{◌≡◌, ◌↔◌, ℕ, ◌*◌}
use Rattle.divider.specs.Divider.{divider_of}
use Rattle.rate.specs.declared.Rule.{Rule}
use Rattle.rate.specs.Rate.{period, Outcome}

-- "Any two outcomes allowed by a contract are proved the same": a request has an answer in numbers, and each answer is that one
abbrev pub Settled : Rule → Type 0
Settled u = (f tol : ℕ) → (v : ℕ × ℕ × ℕ × ℕ) × Outcome u f tol v × ((w : ℕ × ℕ × ℕ × ℕ) → Outcome u f tol w → w ≡ v)

-- "Old cases must come out the same after multiplying by 1,000": to f hertz paper 01's rule answers what the rule of today answers to 1,000 f
-- millihertz, the same refusal or the same pair
abbrev pub Thousandfold : (ℕ → Rule) → Type 0
Thousandfold u = (f tol : ℕ) (v : ℕ × ℕ × ℕ × ℕ) → Outcome (u 1) f tol v ↔ Outcome (u 1_000) (1_000 * f) tol v

-- ---- sums

-- "the sums below name N": the pair answered has the divider N
pub record Gives (u : Rule) (f tol N X : ℕ) : Type 0 where
  pub choice : ℕ
  pub divides : divider_of choice ≡ N
  pub answered : Outcome u f tol (0, choice, X, period u choice X)

-- Of our own: "then smaller P", and the last divider. In range no rate in millihertz has two nearest periods or wants a divider above 16, so
-- these are shown by SPI's rule with a wider range: 4,500,000,000 lies midway between P 8 and 10, and 5,000 is reached by N 64 alone.
abbrev pub wider : Rule
wider = record { hertz = 40_000_000; clock = 40_000_000_000; low = 5_000; high = 4_500_000_000; base = 2 }

pub record FarSums : Type 0 where
  pub midway : Gives wider 4_500_000_000 1_000_000 1 3
  pub last : Gives wider 5_000 0 64 62_499
