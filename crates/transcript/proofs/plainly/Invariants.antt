-- `transcript::plainly`: the readings passed are the same. Assumes nothing.
use Rattle.transcript.specs.How.{Agree}
use Rattle.transcript.proofs.plainly.Given as goal

abbrev pub invariant-loop-i : goal.invariant-loop-i
invariant-loop-i l = Agree l.i l.transcript l.out
