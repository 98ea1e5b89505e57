-- The encoders of the records passed are marked. Assumes nothing.
use Rattle.dump.proofs.Passes.{Marking}
use Rattle.dump.proofs.present.Given as goal

abbrev pub invariant-loop-i : goal.invariant-loop-i
invariant-loop-i l = Marking l.records l.pins l.i
