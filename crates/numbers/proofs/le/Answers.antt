-- `numbers::le`: the bytes, with zeros behind them, say the number.
use Rattle.std.proofs.Common.{arith}
use mathlib.Core.Path.{sym, subst}
use Prim.Native.Nat.{ℕ, ◌<◌, ◌^◌}
use Rattle.numbers.proofs.Numbers.{le_read, le_small}
use Rattle.numbers.proofs.le.Goals as goal

pub returns-clause-value : goal.returns-clause-value
returns-clause-value g c = le_read g.row.N c.args.at _ c.args.s.now _ c.requires.fits c.requires.in_bounds c.copy_from_slice.ensures.after c.from_le_bytes.ensures

pub returns-clause-bound : goal.returns-clause-bound
returns-clause-bound g c =
    let e = le_read g.row.N c.args.at _ c.args.s.now _ c.requires.fits c.requires.in_bounds c.copy_from_slice.ensures.after c.from_le_bytes.ensures in
    subst (λ (n : ℕ). n < 256 ^ g.row.N) (sym e) (le_small g.row.N c.args.at c.args.s.now (λ i. omega (arith, c.type_inv.s i)))
