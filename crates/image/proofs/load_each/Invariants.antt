use Rattle.std.proofs.Common.{◌≡◌, ℕ, List, length}
use Rattle.codec.proofs.Loops.{loaded}
use Rattle.image_state.specs.How.{Gives}
use Rattle.image.proofs.load_each.Given as goal

-- the first i values are loaded
abbrev pub invariant-loop-i : goal.invariant-loop-i
invariant-loop-i g l = (load : List ℕ → ℕ → _) (s : List ℕ) → Gives (goal.F-post g l.value) load s l.from l.width (length l.fn.values) → l.values ≡ loaded l.width load s l.from l.i l.fn.values
