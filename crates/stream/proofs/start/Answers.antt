use Rattle.stream.proofs.Ways.{fresh_saves, started}
use Rattle.stream.proofs.start.Goals as goal

pub save-requires-clause-saves : goal.save-requires-clause-saves
save-requires-clause-saves c = search (fresh_saves, c.known.ensures, c.if-not-known.false, c.start.ensures)

pub returns-clause-state_after : goal.returns-clause-state_after
returns-clause-state_after c = search (started, c.known.ensures, c.if-not-known.false, c.start.ensures, c.save.ensures)
