-- How the finder counts, as functions that compute: the finest divider whose counts go past the wanted rate, and of its two counts next to
-- that rate the nearer. No promise of the finder names them. Assumes nothing.
use Rattle.std.specs.Prelude.{◌≡◌, cond, ℕ, ◌+◌, ◌-◌, ◌*◌, ◌/◌, ◌≤◌, ◌<◌, leb}
use Rattle.divider.specs.Divider.{divider_of}
use Rattle.rate_counts.specs.declared.Bracket.{Bracket}
use Rattle.rate_counts.specs.declared.Nearest.{Nearest}

-- a clock's rate and a step of undivided counts for which no product outgrows 64 bits and the last divider's counts go past the rate
pub record Fit (C s : ℕ) : Type 0 where
  pub ticks : 0 < C
  pub clock : C ≤ 40_000_000_000
  pub some : 0 < s
  pub wide : s ≤ 9_000_000_000
  pub reach : C < 4_194_304 * s

-- m steps of s are at or under the clock's rate, one more is past it
pub record Around (C s m : ℕ) : Type 0 where
  pub clock : C ≤ 40_000_000_000
  pub wide : s ≤ 9_000_000_000
  pub under : s * m ≤ C
  pub past : C < s * m + s

-- a bracket: with a coarser divider than the first, the counts reach at least half way, as no finer one's do
pub record Brackets (C s : ℕ) (a : Bracket) : Type 0 where
  pub some : 1 ≤ a.choice
  pub most : a.choice ≤ 7
  pub divides : a.divider ≡ divider_of a.choice
  pub small : a.divider ≤ 64
  pub around : Around C (s * a.divider) a.low
  pub full : 1 < a.choice → 32_768 ≤ a.low

abbrev pub undivided_of : ℕ → ℕ → Bracket
undivided_of C s = record { choice = 1; divider = 1; low = C / s }

abbrev pub coarser_of : Bracket → Bracket
coarser_of a = record { choice = a.choice + 1; divider = 2 * a.divider; low = a.low / 2 }

-- how far m steps of s fall short of the clock's rate, and one more goes over it
abbrev pub short : ℕ → ℕ → ℕ → ℕ
short C s m = C - s * m

abbrev pub over : ℕ → ℕ → ℕ → ℕ
over C s m = s - short C s m

abbrev pub nearer_of : ℕ → ℕ → ℕ → Nearest
nearer_of C s m =
    cond (leb (short C s m * (m + 1)) (over C s m * m))
    (record { count = m; miss = short C s m })
    (record { count = m + 1; miss = over C s m })
