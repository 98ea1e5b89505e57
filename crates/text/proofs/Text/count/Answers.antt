use Rattle.text.proofs.Puts.{puts_then}
use Rattle.text.proofs.Text.count.Goals as goal

pub returns : goal.returns
returns c = search puts_then
