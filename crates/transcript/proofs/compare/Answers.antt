-- `transcript::compare` meets its contract. Assumes nothing.
use Rattle.std.proofs.Common.{arith, lit<, lit≤}
use Rattle.transcript.proofs.Going.{begins, in_log, at_in_log, place_fits, nearer, skips, cntr_breaks, cntr_on, other_breaks, other_on, ends_both, ends_negated}
use Rattle.transcript.proofs.compare.Goals as goal
use Rattle.transcript.proofs.compare.Goals.{then-is_cntr+else-t-w, else-is_cntr+else-t-v}

pub loop-j-init : goal.loop-j-init
loop-j-init c = begins _ _ _

pub bounds-log-at : goal.bounds-log-at
bounds-log-at c = in_log _ _ _ _ c.requires _ _ _ c.loop-at.invariant c.loop-j-test.true

pub overflow_add-at : goal.overflow_add-at
overflow_add-at c = place_fits _ _ _ _ c.requires _ _ _ c.loop-at.invariant c.loop-j-test.true 16 (lit≤ tt)

pub loop-at-smaller : goal.loop-at-smaller
loop-at-smaller c = nearer _ _ _ _ c.requires _ _ _ c.loop-at.invariant c.loop-j-test.true

pub loop-at-preserved : goal.loop-at-preserved
loop-at-preserved c = skips _ _ _ _ c.requires _ _ _ c.loop-at.invariant c.loop-j-test.true c.loop-at-test.true

pub bounds-log-at-in-loop-j : goal.bounds-log-at-in-loop-j
bounds-log-at-in-loop-j c = at_in_log _ _ _ _ c.requires _ _ _ c.loop-at.invariant c.loop-j-test.true 1 (lit< tt)

pub bounds-log-at-in-loop-j-2 : goal.bounds-log-at-in-loop-j-2
bounds-log-at-in-loop-j-2 c = at_in_log _ _ _ _ c.requires _ _ _ c.loop-at.invariant c.loop-j-test.true 3 (lit< tt)

pub returns-then-still : goal.returns-then-still
returns-then-still c = ends_both _ _ _ _ c.requires _ _ _ c.loop-j.invariant (omega (arith, c.loop-j.auto.j-end)) c.if-still.true

pub returns-else-still : goal.returns-else-still
returns-else-still c = ends_negated _ _ _ _ c.requires _ _ _ c.loop-j.invariant (omega (arith, c.loop-j.auto.j-end)) c.if-still.false

pub returns-then-t-w : goal.returns-then-t-w
returns-then-t-w c =
    cntr_breaks _ _ _ _ c.requires _ _ _ c.loop-at.invariant c.loop-j-test.true c.loop-at-test.false _ _ _ c.le64-t.ensures c.le64-v.ensures c.is_cntr.ensures
    _ c.plainly.ensures _ c.if-is_cntr.true c.negate-w.ensures c.if-t-w.true

pub returns-then-t-v : goal.returns-then-t-v
returns-then-t-v c =
    other_breaks _ _ _ _ c.requires _ _ _ c.loop-at.invariant c.loop-j-test.true c.loop-at-test.false _ _ _ c.le64-t.ensures c.le64-v.ensures c.is_cntr.ensures
    _ c.plainly-then-t-v.ensures c.if-is_cntr.false c.if-t-v.true

pub loop-j-preserved : goal.loop-j-preserved
loop-j-preserved c =
    elim c.if-is_cntr.branch [
      | then-is_cntr+else-t-w w ↦
          rw w.still-is (cntr_on _ _ _ _ c.requires _ _ _ c.loop-at.invariant c.loop-j-test.true c.loop-at-test.false _ _ _ c.le64-t.ensures c.le64-v.ensures c.is_cntr.ensures
          _ w.if-is_cntr.true w.negate-w.ensures w.if-t-w.false c.type_inv.transcript)
      | else-is_cntr+else-t-v w ↦
          rw w.still-is (other_on _ _ _ _ c.requires _ _ _ c.loop-at.invariant c.loop-j-test.true c.loop-at-test.false _ _ _ c.le64-t.ensures c.le64-v.ensures c.is_cntr.ensures
          w.if-is_cntr.false w.if-t-v.false c.type_inv.transcript)
    ]
