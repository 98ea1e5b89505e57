-- `text::copy`: the bytes passed stand in out.
use Rattle.std.proofs.Common.{◌+◌, take}
use Rattle.decimal.specs.Put.{Put}
use Rattle.text.proofs.copy.Given as goal

abbrev pub invariant-loop-i : goal.invariant-loop-i
invariant-loop-i l = Put l.fn.out l.at (take l.i l.word) l.out (l.at + l.i)
