use Rattle.select.proofs.Ports.{pins_encoder, pins_no_encoder}
use Rattle.select.proofs.encoder_routed.Goals as goal

pub returns-then-i-lt10 : goal.returns-then-i-lt10
returns-then-i-lt10 c = search pins_encoder

pub returns : goal.returns
returns c = search pins_no_encoder
