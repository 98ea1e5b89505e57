-- The entry of an encoder that changed, and none of another. Assumes nothing.
use Rattle.dump_read.proofs.Stores.{entry_none, entry_some}
use Rattle.dump_read.proofs.put_entry.Goals as goal

pub returns-then-channel-ne0-clause-stored : goal.returns-then-channel-ne0-clause-stored
returns-then-channel-ne0-clause-stored c = search entry_some

pub returns-else-channel-ne0-clause-stored : goal.returns-else-channel-ne0-clause-stored
returns-else-channel-ne0-clause-stored c = search entry_none
