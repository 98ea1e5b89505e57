use Rattle.select_allowed.proofs.Quick.{pins_allowed}
use Rattle.select_allowed.proofs.allowed.Goals as goal

pub returns : goal.returns
returns c = search pins_allowed
