-- No line where nothing changed, else the time and what changed. Assumes nothing.
use Rattle.vcd_write.proofs.Lines.{changes_none, changes_put}
use Rattle.vcd_write.proofs.put_changes.Goals as goal

pub returns-then-p-v : goal.returns-then-p-v
returns-then-p-v c = search changes_none

pub returns : goal.returns
returns c = search changes_put
