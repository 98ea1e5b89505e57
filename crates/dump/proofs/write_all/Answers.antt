-- In place, or by a buffer of our own. Assumes nothing.
use Rattle.dump.proofs.Whole.{place_answer, place_output, own_output}
use Rattle.dump.proofs.write_all.Goals as goal

pub returns-then-out-ge-DUMP_BYTES-clause-value : goal.returns-then-out-ge-DUMP_BYTES-clause-value
returns-then-out-ge-DUMP_BYTES-clause-value c = search place_answer

pub returns-then-out-ge-DUMP_BYTES-clause-out_after : goal.returns-then-out-ge-DUMP_BYTES-clause-out_after
returns-then-out-ge-DUMP_BYTES-clause-out_after c = search place_output

pub returns-clause-out_after : goal.returns-clause-out_after
returns-clause-out_after c = search own_output
