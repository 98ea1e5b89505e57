use Rattle.std.proofs.Common.{refl, arith}
use Rattle.codec.proofs.Loops.{saved_none}
use Rattle.image_words.specs.How.{low_number}
use Rattle.codec.specs.How.{save_word}
use Rattle.image.proofs.Steps.{encoders_on}
use Rattle.image.proofs.save_encoders.Goals as goal

pub loop-i-init : goal.loop-i-init
loop-i-init c = saved_none 8 (save_word low_number) (λ x. refl) c.args.out.now 64 c.args.encoders.now

pub loop-i-preserved : goal.loop-i-preserved
loop-i-preserved c = encoders_on c.args.out.now c.args.encoders.now _ _ _ _ _ (omega arith) c.loop-i.invariant c.encoder_number.ensures c.put64.ensures
