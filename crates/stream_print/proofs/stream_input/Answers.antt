-- `stream_print::stream_input` meets its contract. Assumes nothing.
use Rattle.std.proofs.Common.{rules}
use Rattle.stream_print.proofs.Shows.{ready_first}
use Rattle.stream_print.proofs.stream_input.Goals as goal

pub all-requires : goal.all-requires
all-requires g c = search (ready_first, rules)
