use Rattle.banks.proofs.Copies.{both_out}
use Rattle.banks.proofs.gathered.Goals as goal

pub returns : goal.returns
returns c = search both_out
