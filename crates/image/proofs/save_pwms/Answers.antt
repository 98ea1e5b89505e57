use Rattle.std.proofs.Common.{refl, arith}
use Rattle.codec.proofs.Loops.{saved_none}
use Rattle.image_state.specs.How.{save_pwm}
use Rattle.image.proofs.Steps.{pwms_on}
use Rattle.image.proofs.save_pwms.Goals as goal

pub loop-i-init : goal.loop-i-init
loop-i-init c = saved_none 16 save_pwm (λ x. refl) c.args.out.now 224 c.args.pwms.now

pub loop-i-preserved : goal.loop-i-preserved
loop-i-preserved c = pwms_on c.args.out.now c.args.pwms.now _ _ _ _ (omega arith) c.loop-i.invariant c.put_pwm.ensures
