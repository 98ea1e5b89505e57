-- What the choices divide by, as powers of two, and that the table has it. Assumes nothing.
use mathlib.Core.Path.{◌≡◌, sym, ◌∙◌}
use mathlib.Core.List.{List, [], ◌∷◌}
use mathlib.Core.Bool.{Bool}
use Prim.Native.Nat.{ℕ, ◌-◌, ◌^◌, ◌≤◌}
use native.Mathlib.Omega.{arith}
use lib.Dec.{eqb, eqb→eq}
use lib.ListN.{get_or}
use lib.Pow.{pow_pos, pow_mono}
use borrow.Author.Tests.{le-ltb}
use Rattle.laws.proofs.Table.{at}
use Rattle.divider.specs.Divider.{divider_of}

pub power : (c : ℕ) → 1 ≤ c → c ≤ 7 → divider_of c ≡ 2 ^ (c - 1)
power c h l = rw (le-ltb c 1 h, le-ltb 7 c l)

-- ---- the table's rule, a test at each of its seven entries, which antt computes

abbrev dividers : List ℕ
dividers = 1 ∷ 2 ∷ 4 ∷ 8 ∷ 16 ∷ 32 ∷ 64 ∷ []

right : ℕ → ℕ → Bool
right k x = eqb x (2 ^ k)

module _ (c n : ℕ) (h : 1 ≤ c) (l : c ≤ 7) (e : n ≡ get_or dividers (c - 1) 0) where
  entry : n ≡ 2 ^ (c - 1)
  unfolding right
  entry = e ∙ eqb→eq (get_or dividers (c - 1) 0) (2 ^ (c - 1)) (at right dividers tt (c - 1) (omega arith))

  pub rule : (n ≡ divider_of c) × (1 ≤ n) × (n ≤ 64)
  rule = (entry ∙ sym (power c h l), rw entry (pow_pos (c - 1)), rw entry (pow_mono {j = 6} (omega arith)))
