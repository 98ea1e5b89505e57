use Rattle.image_state.proofs.Tests.{test_none, test_more, test_all}
use Rattle.image_state.proofs.all_at.Goals as goal

pub loop-i-init : goal.loop-i-init
loop-i-init g c = λ ok s h. test_none c.args.width ok s c.args.from

pub loop-i-preserved : goal.loop-i-preserved
loop-i-preserved g c = λ ok s h.
    test_more c.args.width ok s c.args.from c.loop-i.i c.loop-i.all _ (c.loop-i.invariant ok s h) (h c.loop-i.i _ c.loop-i-test.true c.holds-all.ensures)

pub returns : goal.returns
returns g c = λ ok s h.
    test_all c.args.width ok s c.args.from c.loop-i.i c.args.n c.loop-i.all (c.loop-i.invariant ok s h) c.loop-i.auto.i-end c.loop-i-test.false
