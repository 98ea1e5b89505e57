-- The header and then the changes. Assumes nothing.
use Rattle.dump.proofs.Passes.{dump_put}
use Rattle.dump.proofs.write.Goals as goal

pub returns : goal.returns
returns c = search dump_put
