use Rattle.text.proofs.Puts.{puts_line}
use Rattle.text.proofs.Text.pair.Goals as goal

pub returns : goal.returns
returns c = search puts_line
