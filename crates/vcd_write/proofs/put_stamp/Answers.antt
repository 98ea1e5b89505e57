-- A time that is told is not told again. Assumes nothing.
use Rattle.vcd_write.proofs.Lines.{stamp_none, stamp_some}
use Rattle.vcd_write.proofs.put_stamp.Goals as goal

pub returns-then-told : goal.returns-then-told
returns-then-told c = search stamp_none

pub returns-else-told : goal.returns-else-told
returns-else-told c = search stamp_some
