use Rattle.pwm.proofs.Rounds.{up, over}
use Rattle.pwm.proofs.Pwm.in_mode_1.Goals as goal

pub returns-then-s-room : goal.returns-then-s-room
returns-then-s-room c = search up

pub returns-else-s-room : goal.returns-else-s-room
returns-else-s-room c = search over
