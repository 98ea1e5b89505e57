-- A time's line. Assumes nothing.
use Rattle.vcd_write.proofs.Lines.{time_put}
use Rattle.vcd_write.proofs.put_time.Goals as goal

pub returns : goal.returns
returns c = search time_put
