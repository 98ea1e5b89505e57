use Rattle.select_allowed.proofs.Marks.{threes_found}
use Rattle.select_allowed.proofs.threes.Goals as goal

pub returns : goal.returns
returns c = search threes_found
