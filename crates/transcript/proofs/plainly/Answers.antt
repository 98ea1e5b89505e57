-- `transcript::plainly` meets its contract. Assumes nothing.
use Rattle.std.proofs.Common.{arith}
use Rattle.transcript.proofs.Plain.{all_agree, next_differs, next_agrees}
use Rattle.transcript.proofs.plainly.Goals as goal

pub returns-then-t-v : goal.returns-then-t-v
returns-then-t-v c = next_differs _ _ _ c.loop-i.invariant _ _ c.le64-t.ensures c.le64-v.ensures c.loop-i-test.true c.if-t-v.true

pub loop-i-preserved : goal.loop-i-preserved
loop-i-preserved c = next_agrees _ _ _ c.loop-i.invariant _ _ c.le64-t.ensures c.le64-v.ensures c.type_inv.transcript c.type_inv.out c.requires c.loop-i-test.true c.if-t-v.false

pub returns : goal.returns
returns c = all_agree _ _ _ c.loop-i.invariant (omega (arith, c.loop-i.auto.i-end))
