use Rattle.std.proofs.Common.{◌≡◌, ℕ, List, Bool}
use Rattle.codec.specs.How.{ok_many}
use Rattle.image_state.specs.How.{Gives}
use Rattle.image_state.proofs.all_at.Given as goal

-- the first i tests are made
abbrev pub invariant-loop-i : goal.invariant-loop-i
invariant-loop-i g l = (ok : List ℕ → ℕ → Bool) (s : List ℕ) → Gives (goal.F-post g l.holds) ok s l.from l.width l.n → l.all ≡ ok_many l.width ok l.i s l.from
