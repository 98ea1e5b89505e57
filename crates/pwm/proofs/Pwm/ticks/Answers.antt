use Rattle.std.proofs.Common.{arith, ◌+◌, ◌%◌}
use Rattle.pwm.proofs.Waits.{off, wait}
use Rattle.pwm.proofs.Pwm.ticks.Goals as goal

pub returns-then-place-gt-LAST_PLACE : goal.returns-then-place-gt-LAST_PLACE
returns-then-place-gt-LAST_PLACE c =
    let q = c.args.self in
    off c.args.runs q ((q.registers.cs + 65535) % 65536) c.args.t (omega arith) (omega arith) c.if-place-gt-LAST_PLACE.true

pub returns : goal.returns
returns c =
    let q = c.args.self in
    wait q ((q.registers.cs + 65535) % 65536) c.args.t c.if-place-gt-LAST_PLACE.false (omega arith) c.requires c.ranges.t.fits c.args.runs c.steps.result c.steps.ensures
