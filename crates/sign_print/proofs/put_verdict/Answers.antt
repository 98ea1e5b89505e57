-- `sign_print::put_verdict` meets its contract. Assumes nothing.
use Rattle.std.proofs.Common.{rules}
use Rattle.sign_print.proofs.Words.{verdict_forward, verdict_backward, verdict_still, verdict_open}
use Rattle.sign_print.proofs.put_verdict.Goals as goal

pub returns-in-1 : goal.returns-in-1
returns-in-1 c = search (verdict_forward, rules)

pub returns-in-2 : goal.returns-in-2
returns-in-2 c = search (verdict_backward, rules)

pub returns-in-3 : goal.returns-in-3
returns-in-3 c = search (verdict_still, rules)

pub returns-in_default : goal.returns-in_default
returns-in_default c = search (verdict_open, rules)
