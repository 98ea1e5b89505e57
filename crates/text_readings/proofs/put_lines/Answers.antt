use Rattle.std.proofs.Common.{arith, ◌<◌, length, ◌∙◌}
use Rattle.text_readings.proofs.Readings.{readings_next, readings_end}
use Rattle.text_readings.proofs.put_lines.Goals as goal

pub loop-reading-init : goal.loop-reading-init
loop-reading-init c =
    let i = c.into_iter-reading-iterator.ensures.into_iter_gives in
    (rw i c.chunks_exact-reading-items.ensures.size, λ o z. rw (i, c.chunks_exact-reading-items.ensures.rest) at z)

pub loop-reading-preserved : goal.loop-reading-preserved
loop-reading-preserved c =
    let h = c.in-Some.ensures.steps in
    (h.0 ∙ c.loop-reading.invariant.0, readings_next _ _ _ c.loop-reading.reading-iterator.rest.now c.loop-reading.invariant.1 c.in-Some.reading.now _ _ c.le64.result h.1.0 (h.1.1 ∙ c.loop-reading.invariant.0) c.le64.ensures c.line.ensures)

pub returns : goal.returns
returns c =
    let h = c.in-None.ensures.steps in
    let few : length c.loop-reading.reading-iterator.rest.now < 8 = omega arith in
    readings_end _ _ _ c.loop-reading.reading-iterator.rest.now c.loop-reading.invariant.1 few
