use Rattle.std.proofs.Common.{rules}
use Rattle.vcd_turn.proofs.Channels.{pins_set, changed_kept}
use Rattle.vcd_turn.proofs.var_turn.Goals as goal

pub returns-then-follows : goal.returns-then-follows
returns-then-follows c = rw (pins_set, changed_kept) (search rules)
