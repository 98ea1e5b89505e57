use Rattle.made.proofs.Sources.{copied}
use Rattle.made.proofs.hand_out.Goals as goal

pub returns-clause-out_after : goal.returns-clause-out_after
returns-clause-out_after c = search copied
