use Rattle.std.proofs.Common.{◌≡◌}
use Rattle.image.proofs.Steps.{pwms_in}
use Rattle.image.proofs.save_pwms.Given as goal

-- the first i channels are saved
abbrev pub invariant-loop-i : goal.invariant-loop-i
invariant-loop-i l = l.out ≡ pwms_in l.fn.out l.pwms l.i
