use Rattle.laws.proofs.Each.{long_field}
use Rattle.banks.proofs.Copies.{laid_in}
use Rattle.banks.proofs.laid.Goals as goal

pub returns : goal.returns
returns c = search (laid_in, long_field)
