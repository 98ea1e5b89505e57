use Rattle.laws.proofs.Each.{long_field}
use Rattle.image.proofs.Steps.{firsts_put}
use borrow.Author.Rules.{rules}
use Rattle.image.proofs.save_firsts.Goals as goal

pub returns-clause-out_after : goal.returns-clause-out_after
returns-clause-out_after c = firsts_put c.args.f.now (search rules) (search long_field) _ _ _ _ _ _ _ _ c.put64.ensures c.put64-2.ensures c.i2c_number.ensures c.put64-3.ensures c.i2c_number-2.ensures c.put64-4.ensures

pub returns-clause-i2cs_len : goal.returns-clause-i2cs_len
returns-clause-i2cs_len c = search long_field
