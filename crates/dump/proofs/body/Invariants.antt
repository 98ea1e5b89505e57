-- The changes of the records passed stand behind the header. Assumes nothing.
use Rattle.dump.proofs.Passes.{Going}
use Rattle.dump.proofs.body.Given as goal

abbrev pub invariant-loop-i : goal.invariant-loop-i
invariant-loop-i l = Going l.records l.fn.unknown l.fn.out l.from l.out l.pins l.time l.told l.at l.i
