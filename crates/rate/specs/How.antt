-- How the finder goes: which requests it answers from the counts next to the wanted rate (`rate_counts`), and the pair that it makes of one.
-- No promise of a public function names it; `proofs/` show that it finds what `Rate` asks. Assumes nothing.
use Rattle.std.specs.Prelude.{cond, ℕ, ◌-◌, ◌*◌, ◌≤◌, ◌<◌, ltb, leb}
use Rattle.rate_counts.specs.declared.Bracket.{Bracket}
use Rattle.rate_counts.specs.How.{Brackets}
use Rattle.rate.specs.declared.Rule.{Rule}
use Rattle.rate.specs.declared.Pair.{Pair}
use Rattle.rate.specs.Rate.{InRange}

-- the rules whose every wanted rate makes one
pub record Fair (u : Rule) : Type 0 where
  pub ticks : 0 < u.clock
  pub clock : u.clock ≤ 40_000_000_000
  pub base : 0 < u.base
  pub twice : u.base ≤ 2
  pub low : 0 < u.low
  pub high : u.high ≤ 4_500_000_000
  pub reach : u.clock < 4_194_304 * (u.low * u.base)

-- a request that is neither out of range nor of a tolerance too large, and a bracket whose two counts a pair can have
pub record Asked (u : Rule) (f tol : ℕ) (a : Bracket) : Type 0 where
  pub fair : Fair u
  pub range : InRange u f
  pub few : tol ≤ 1_000_000
  pub bracket : Brackets u.clock (f * u.base) a
  pub low : a.low < 65_536

-- the pair of the choice c, m counts and the period p, with the smaller divider where two make the same period
abbrev pub pair_of : ℕ → ℕ → ℕ → Pair
pair_of c m p =
    let kept : Pair = record { choice = c; x = m - 1; period = p } in
    cond (ltb 1 c) (cond (leb m 32_768) (record { choice = c - 1; x = 2 * m - 1; period = p }) kept) kept
