-- `stream_print::chunk_text` meets its contract. Assumes nothing.
use Rattle.std.proofs.Common.{rules}
use Rattle.stream_print.proofs.Shows.{readings_fit, inside, front, shown, shown_short, ready_after}
use Rattle.stream_print.proofs.chunk_text.Goals as goal

pub overflow_mul-n : goal.overflow_mul-n
overflow_mul-n c = record { fits = search (readings_fit, rules) }

pub slice_bounds-out-end : goal.slice_bounds-out-end
slice_bounds-out-end c = search (inside, rules)

pub slice_bounds-put_readings-end : goal.slice_bounds-put_readings-end
slice_bounds-put_readings-end c = search (front, rules)

pub returns-clause-put : goal.returns-clause-put
returns-clause-put c = search (shown, rules)

pub returns-clause-bytes_len_bound_2 : goal.returns-clause-bytes_len_bound_2
returns-clause-bytes_len_bound_2 c = search (shown_short, rules)

pub returns-clause-ready_2 : goal.returns-clause-ready_2
returns-clause-ready_2 c = search (ready_after, rules)
