-- `sign_print::put_stretch` meets its contract. Assumes nothing.
use Rattle.std.proofs.Common.{rules}
use Rattle.sign_print.proofs.Words.{all_spelt}
use Rattle.sign_print.proofs.put_stretch.Goals as goal

pub returns : goal.returns
returns c = search (all_spelt, rules)
