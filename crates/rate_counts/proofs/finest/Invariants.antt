-- `rate_counts::finest`: what is at hand is a bracket of the request. Assumes nothing.
use Rattle.rate_counts.specs.How.{Brackets}
use Rattle.rate_counts.proofs.finest.Given as goal

abbrev pub invariant-loop-a : goal.invariant-loop-a
invariant-loop-a l = Brackets l.clock l.step l.a

abbrev pub decreases-loop-a : goal.decreases-loop-a
decreases-loop-a l = l.a.low
