-- An entry of the table. Assumes nothing.
use Rattle.std.proofs.Common.{arith}
use Rattle.divider.proofs.Powers.{rule}
use Rattle.divider.proofs.divider.Goals as goal

pub returns-in-1-to-7 : goal.returns-in-1-to-7
returns-in-1-to-7 c = rule c.args.choice c.from.result (omega (arith, c.in-1-to-7)) (omega (arith, c.in-1-to-7)) c.from.ensures
