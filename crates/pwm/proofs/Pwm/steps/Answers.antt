use Rattle.pwm.proofs.Rounds.{low}
use Rattle.pwm.proofs.Pwm.steps.Goals as goal

pub returns-else-mode : goal.returns-else-mode
returns-else-mode c = search low
