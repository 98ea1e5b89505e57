use Rattle.std.proofs.Common.{arith}
use Rattle.banks.proofs.Parts.{copied_one}
use Rattle.banks.proofs.copy.Goals as goal

pub loop-i-preserved : goal.loop-i-preserved
loop-i-preserved g c = copied_one _ _ _ _ _ c.loop-i.invariant c.index-from-i.is (omega arith) c.loop-i-test.true
