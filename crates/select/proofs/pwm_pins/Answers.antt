use Rattle.select_allowed.proofs.Marks.{ones_found}
use Rattle.select.proofs.Ports.{pins_pins}
use Rattle.select.proofs.pwm_pins.Goals as goal

pub returns-else-port : goal.returns-else-port
returns-else-port c = search (pins_pins, ones_found)
