use Rattle.i2c_code.proofs.States.{stopped}
use Rattle.i2c_code.proofs.forbidden.Goals as goal

pub returns : goal.returns
returns c = stopped c.args.phase c.args.code c.args.acknowledged c.eq.result c.eq.ensures
