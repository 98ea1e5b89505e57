use Rattle.std.proofs.Common.{◌≡◌}
use Rattle.image.proofs.Steps.{encoders_in}
use Rattle.image.proofs.save_encoders.Given as goal

-- the first i encoders are saved
abbrev pub invariant-loop-i : goal.invariant-loop-i
invariant-loop-i l = l.out ≡ encoders_in l.fn.out l.encoders l.i
