use Rattle.numbers.proofs.Numbers.{stored}
use Rattle.numbers.proofs.put.Goals as goal

pub returns : goal.returns
returns g c = stored g.row.N c.args.v c.args.at c.args.out.now _ _ c.requires.fits c.requires.in_bounds c.to_le_bytes.ensures c.copy_from_slice.ensures.after
