-- `sign_print::sign_log` meets its contract. Assumes nothing.
use Rattle.std.proofs.Common.{ℕ, rules}
use mathlib.Core.List.{replicate}
use lib.ListN.{length-replicate}
use Rattle.text.proofs.Puts.{puts_then, puts_end}
use Rattle.sign_print.proofs.Saying.{all_entries, text_long}
use Rattle.sign_print.proofs.sign_log.Goals as goal

pub put_stretches-requires : goal.put_stretches-requires
put_stretches-requires c = let r = c.sign-signs.ensures in all_entries _ (replicate 65504 0) (length-replicate {A = ℕ} 65504 0) _ _ r.value r.out_after

pub returns-clause-put : goal.returns-clause-put
returns-clause-put c = let h = puts_then _ _ _ _ _ c.put_stretches.ensures c.put_stop.ensures.put in search (puts_end, rules)

pub returns-clause-log_len_bound : goal.returns-clause-log_len_bound
returns-clause-log_len_bound c = search (text_long, rules)
