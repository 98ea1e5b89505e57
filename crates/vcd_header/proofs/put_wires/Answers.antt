-- One encoder more has its lines, and at the end all have. Assumes nothing.
use Rattle.std.proofs.Common.{rules, arith, ◌≡◌, length}
use Rattle.vcd_header.proofs.Wires.{wires_none, encoder_none, encoder_two, wires_done}
use Rattle.vcd_header.proofs.put_wires.Goals as goal
use Rattle.vcd_header.proofs.put_wires.Goals.{then-pins-e-ne-NO_WIRE, else-pins-e-ne-NO_WIRE}

pub loop-e-init : goal.loop-e-init
loop-e-init g c = λ of h. wires_none _ _ _

pub loop-e-preserved : goal.loop-e-preserved
loop-e-preserved g c =
    λ of h.
    let long : length c.args.pins ≡ 20 = search rules in
    let so_far = c.loop-e.invariant of h in
    elim c.if-pins-e-ne-NO_WIRE.branch [
      | then-pins-e-ne-NO_WIRE w ↦
          rw (w.out-is, w.end-is)
          (encoder_two of _ _ _ _ _ _ so_far long c.loop-e-test.true _ _ _ _ _ _ w.if-pins-e-ne-NO_WIRE.true (h _ _ (omega arith) w.line.ensures) (h _ _ (omega arith) w.line-then-pins-e-ne-NO_WIRE.ensures)
          w.put_line-end.ensures w.put_line-end-then-pins-e-ne-NO_WIRE.ensures)
      | else-pins-e-ne-NO_WIRE w ↦ rw (w.out-is, w.end-is) (encoder_none of _ _ _ _ _ _ so_far long c.loop-e-test.true w.if-pins-e-ne-NO_WIRE.false)
    ]

pub returns : goal.returns
returns g c = λ of h. wires_done of _ _ _ _ _ _ (c.loop-e.invariant of h) (search rules) c.loop-e-test.false
