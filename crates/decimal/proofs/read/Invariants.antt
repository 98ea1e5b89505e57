-- `decimal::read`: the text says what its rest says after the digits passed.
use Rattle.std.proofs.Common.{◌≡◌, ◌^◌, ◌<◌, drop}
use Rattle.decimal.specs.Decimal.{decimal_of}
use Rattle.decimal.proofs.Digits.{rest_of}
use Rattle.decimal.proofs.read.Given as goal

abbrev pub invariant-loop-b : goal.invariant-loop-b
invariant-loop-b l = (l.value < 2 ^ 64) × (decimal_of l.text ≡ rest_of l.value (drop l.b-index l.text))
