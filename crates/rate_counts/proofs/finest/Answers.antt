-- `rate_counts::finest` meets its contract. Assumes nothing.
use Rattle.rate_counts.proofs.Around.{coarser_brackets}
use Rattle.rate_counts.proofs.finest.Goals as goal

pub loop-a-preserved : goal.loop-a-preserved
loop-a-preserved c = rw c.coarser-a.ensures (coarser_brackets c.args.clock c.args.step c.requires c.loop-a.a c.loop-a.invariant c.loop-a-test.true)
