-- `sign_entry::settle`: the first j are entries. Assumes nothing.
use Rattle.std.proofs.Common.{◌≡◌, length}
use Rattle.sign_entry.specs.How.{settled_to}
use Rattle.sign_entry.proofs.settle.Given as goal

abbrev pub invariant-loop-j : goal.invariant-loop-j
invariant-loop-j l = (length l.out ≡ length l.initial.out) × (l.out ≡ settled_to l.j l.initial.out)
