use Rattle.std.proofs.Common.{◌≡◌, arith, length, refl}
use Rattle.text.proofs.Lines.{copy_none, copy_more, copy_all}
use Rattle.text.proofs.copy.Goals as goal

pub loop-i-init : goal.loop-i-init
loop-i-init c = copy_none _ c.args.word.now _

pub loop-i-preserved : goal.loop-i-preserved
loop-i-preserved c = copy_more _ _ _ _ _ c.loop-i.invariant _ refl c.loop-i-test.true c.requires

pub returns : goal.returns
returns c = let h : c.loop-i.i ≡ length c.args.word.now = omega arith in copy_all _ _ _ _ _ c.loop-i.invariant h
