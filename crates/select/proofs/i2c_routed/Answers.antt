use Rattle.select.proofs.Ports.{pins_i2c}
use Rattle.select.proofs.i2c_routed.Goals as goal

pub returns-else-port : goal.returns-else-port
returns-else-port c = search pins_i2c
