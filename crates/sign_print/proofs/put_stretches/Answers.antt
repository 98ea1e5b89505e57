-- `sign_print::put_stretches` meets its contract. Assumes nothing.
use Rattle.std.proofs.Common.{rules}
use Rattle.sign_print.proofs.Saying.{begins, here, next, all_said}
use Rattle.sign_print.proofs.put_stretches.Goals as goal

pub loop-i-init : goal.loop-i-init
loop-i-init c = search (begins, rules)

pub put_entry-requires : goal.put_entry-requires
put_entry-requires c = search (here, rules)

pub loop-i-preserved : goal.loop-i-preserved
loop-i-preserved c = search (next, rules)

pub returns : goal.returns
returns c = search (all_said, rules)
