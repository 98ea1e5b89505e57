-- every stream reached is ready
use Rattle.stream_print.specs.How.{Ready}
use Rattle.stream_print.proofs.all.Given as goal

abbrev pub invariant-loop : goal.invariant-loop
invariant-loop g l = Ready l.s
