-- `transcript::compare`: `Going` holds before each record. Assumes nothing.
use Rattle.std.proofs.Common.{◌-◌, length}
use Rattle.transcript.proofs.Going.{Going}
use Rattle.transcript.proofs.compare.Given as goal

abbrev pub invariant-loop-j : goal.invariant-loop-j
invariant-loop-j l = Going l.log l.start l.transcript l.still l.at l.j

abbrev pub invariant-loop-at : goal.invariant-loop-at
invariant-loop-at l = Going l.log l.start l.transcript l.still l.at l.j

abbrev pub decreases-loop-at : goal.decreases-loop-at
decreases-loop-at l = length l.log - l.at
