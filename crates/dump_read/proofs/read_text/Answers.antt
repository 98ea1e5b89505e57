-- A byte more is read, and at the end all are. Assumes nothing.
use Rattle.dump_read.proofs.Texts.{reading, reads_on, reads_line, read_turned, read_told}
use Rattle.dump_read.proofs.read_text.Goals as goal
use Rattle.dump_read.proofs.read_text.Goals.{then-text-i-eq10, else-text-i-eq10}

pub loop-i-init : goal.loop-i-init
loop-i-init c = search reading

pub loop-i-preserved : goal.loop-i-preserved
loop-i-preserved c =
    elim c.if-text-i-eq10.branch [
      | then-text-i-eq10 w ↦ rw (w.out-is, w.s-is, w.start-is) (search reads_line)
      | else-text-i-eq10 w ↦ rw (w.out-is, w.s-is, w.start-is) (search reads_on)
    ]

pub returns-clause-reader_value : goal.returns-clause-reader_value
returns-clause-reader_value c = search read_turned

pub returns-clause-stored : goal.returns-clause-stored
returns-clause-stored c = search read_told
