use Rattle.laws.proofs.Each.{long_field}
use Rattle.banks.proofs.Copies.{both_in}
use Rattle.banks.proofs.laid_out.Goals as goal

pub returns : goal.returns
returns c = let w = c.well_formed in let s = c.laid.ensures in search (both_in, long_field)
