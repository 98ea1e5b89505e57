-- `replay_print::replay_log` meets its contract. Assumes nothing.
use Rattle.std.proofs.Common.{ℕ, sym, arith, rules, length-take-le}
use lib.ListN.{length-replicate}
use Rattle.judge.proofs.Whole.{few}
use Rattle.replay_print.proofs.Says.{said, room_enough}
use Rattle.replay_print.proofs.replay_log.Goals as goal

pub overflow_mul-n : goal.overflow_mul-n
overflow_mul-n c = let r = c.replay-stop.ensures in record { fits = omega (arith, few _ _ _ _ _ r.value r.out_after) }

pub slice_bounds-out-end : goal.slice_bounds-out-end
slice_bounds-out-end c = let r = c.replay-stop.ensures in few _ _ _ _ _ r.value r.out_after

pub slice_bounds-replay_text-end : goal.slice_bounds-replay_text-end
slice_bounds-replay_text-end c = let r = c.replay-stop.ensures in sym (length-take-le _ _ (few _ _ _ _ _ r.value r.out_after))

pub returns-clause-put : goal.returns-clause-put
returns-clause-put c =
    let r = c.replay-stop.ensures in
    said _ _ _ _ _ r.value r.out_after (length-replicate {A = ℕ} 16384 0) _ c.number.ensures _ _ _ c.replay_text.ensures

pub returns-clause-log_len_bound : goal.returns-clause-log_len_bound
returns-clause-log_len_bound c = let r = c.replay-stop.ensures in room_enough _ _ _ _ _ r.value r.out_after (length-replicate {A = ℕ} 16384 0) (search rules) (search rules) (search rules)
