use lib.Bits.{bit_or}
use Rattle.std.proofs.Common.{true}
use Rattle.encoder_stat.specs.Stat.{stat_of}
use Rattle.encoder_stat.proofs.Marks.{by_bits}
use Rattle.encoder_stat.proofs.erred.Goals as goal

pub returns : goal.returns
unfolding stat_of
returns c = by_bits (λ s. bit_or s 2) (λ d r u s a o. stat_of d true u s a o) tt c.args.stat
