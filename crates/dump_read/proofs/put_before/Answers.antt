-- At a time what stands is told, before another line nothing. Assumes nothing.
use Rattle.dump_read.proofs.Stores.{at_time, quiet}
use Rattle.dump_read.proofs.put_before.Goals as goal

pub returns-in-Time-clause-stored : goal.returns-in-Time-clause-stored
returns-in-Time-clause-stored c = search at_time

pub returns-in_default-clause-stored : goal.returns-in_default-clause-stored
returns-in_default-clause-stored c = quiet _ _ _ _ c.in_default.not-Time
