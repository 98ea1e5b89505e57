-- A value that a wire has is not written. Assumes nothing.
use Rattle.vcd_write.proofs.Lines.{change_none, change_some}
use Rattle.vcd_write.proofs.put_change.Goals as goal

pub returns-then-same : goal.returns-then-same
returns-then-same c = search change_none

pub returns-else-same : goal.returns-else-same
returns-else-same c = search change_some
