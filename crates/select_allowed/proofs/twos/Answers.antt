use Rattle.select_allowed.proofs.Marks.{twos_found}
use Rattle.select_allowed.proofs.twos.Goals as goal

pub returns : goal.returns
returns c = search twos_found
