-- `sign_print::put_stop` meets its contract. Assumes nothing.
use Rattle.std.proofs.Common.{rules}
use Rattle.sign_print.proofs.Saying.{stop_said, stop_short}
use Rattle.sign_print.proofs.put_stop.Goals as goal

pub returns-clause-put : goal.returns-clause-put
returns-clause-put c = search (stop_said, rules)

pub returns-clause-log_len_bound : goal.returns-clause-log_len_bound
returns-clause-log_len_bound c = stop_short _ _ c.replayed-stop.ensures (search rules) (search rules)
