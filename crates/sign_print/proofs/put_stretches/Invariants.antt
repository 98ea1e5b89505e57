-- `sign_print::put_stretches`: the lines of the entries passed stand in the text. Assumes nothing.
use Rattle.sign_print.proofs.Saying.{Saying}
use Rattle.sign_print.proofs.put_stretches.Given as goal

abbrev pub invariant-loop-i : goal.invariant-loop-i
invariant-loop-i l = Saying l.log l.entries l.fn.text l.n l.text l.i
