-- The changes of a record more, and at the end all. Assumes nothing.
use lib.Dec.{lit≤}
use Rattle.dump.proofs.Passes.{begins, ends, ticks_fit, time_fits, goes_wait, going_encoder, going_value, value_fits, going_known, goes_pins}
use Rattle.dump.proofs.body.Goals as goal
use Rattle.dump.proofs.body.Goals.{in-Wait, in-Pins}

pub loop-i-init : goal.loop-i-init
loop-i-init c = search begins

pub overflow_mul-time : goal.overflow_mul-time
overflow_mul-time c = search (ticks_fit, lit≤)

pub overflow_add-time : goal.overflow_add-time
overflow_add-time c = search (time_fits, lit≤)

pub bounds-pins-encoder : goal.bounds-pins-encoder
bounds-pins-encoder c = search going_encoder

pub overflow_cast-v : goal.overflow_cast-v
overflow_cast-v c = search value_fits

pub put_changes-at-requires : goal.put_changes-at-requires
put_changes-at-requires c = (search going_encoder, search going_known, search going_value)

pub bounds-pins-encoder-in-Pins : goal.bounds-pins-encoder-in-Pins
bounds-pins-encoder-in-Pins c = search going_encoder

pub loop-i-preserved : goal.loop-i-preserved
loop-i-preserved c =
    elim c.match-seen.branch [
      | in-Wait w ↦ rw (w.out-is, w.pins-is, w.time-is, w.told-is, w.at-is) (search goes_wait)
      | in-Pins w ↦ rw (w.out-is, w.pins-is, w.time-is, w.told-is, w.at-is) (search goes_pins)
    ]

pub returns : goal.returns
returns c = search ends
