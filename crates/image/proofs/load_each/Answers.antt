use Rattle.std.proofs.Common.{◌∙◌, refl, length}
use Rattle.codec.proofs.Loops.{loaded_none, loaded_more, loaded_all}
use Rattle.image.proofs.load_each.Goals as goal

pub loop-i-init : goal.loop-i-init
loop-i-init g c = λ load s h. loaded_none c.args.width load s c.args.from c.args.values.now

pub loop-i-preserved : goal.loop-i-preserved
loop-i-preserved g c = λ load s h.
    rw (c.loop-i.invariant load s h, h c.loop-i.i c.value.result c.loop-i-test.true c.value.ensures)
    (loaded_more c.args.width load s c.args.from c.args.values.now c.loop-i.i c.loop-i-test.true)

pub returns : goal.returns
returns g c = λ load s h.
    c.loop-i.invariant load s h
    ∙ loaded_all c.args.width load s c.args.from c.args.values.now c.loop-i.i (length c.args.values.now) refl c.loop-i.auto.i-end c.loop-i-test.false
