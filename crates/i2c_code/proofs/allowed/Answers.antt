use Rattle.i2c_code.proofs.States.{with_byte, without_byte}
use Rattle.i2c_code.proofs.allowed.Goals as goal

pub returns-then-code : goal.returns-then-code
returns-then-code c = with_byte c.args.phase c.args.code c.idle_in.result c.eq.result c.if-code.true c.idle_in.ensures c.eq.ensures

pub returns-else-code : goal.returns-else-code
returns-else-code c = without_byte c.args.phase c.args.code c.ne.result c.if-code.false c.ne.ensures
