-- A record more is marked, and at the end all are. Assumes nothing.
use Rattle.dump.proofs.Passes.{marking, all_marked, marks_wait, pins_encoder, marks_pins}
use Rattle.dump.proofs.present.Goals as goal
use Rattle.dump.proofs.present.Goals.{in-Pins, in_default}

pub loop-i-init : goal.loop-i-init
loop-i-init c = search marking

pub bounds-pins-encoder : goal.bounds-pins-encoder
bounds-pins-encoder c = search pins_encoder

pub loop-i-preserved : goal.loop-i-preserved
loop-i-preserved c =
    elim c.match-seen.branch [
      | in-Pins w ↦ rw w.pins-is (search marks_pins)
      | in_default w ↦ rw w.pins-is (search marks_wait)
    ]

pub returns : goal.returns
returns c = search all_marked
