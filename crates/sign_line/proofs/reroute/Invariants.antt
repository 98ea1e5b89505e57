-- `sign_line::reroute`: the first e lines are rerouted. Assumes nothing.
use Rattle.std.proofs.Common.{◌≡◌, ◌≤◌}
use Rattle.laws.proofs.Each.{front}
use Rattle.sign_line.specs.How.{rerouted_line}
use Rattle.sign_line.proofs.reroute.Given as goal

abbrev pub invariant-loop-e : goal.invariant-loop-e
invariant-loop-e l = (l.e ≤ 20) × (l.lines ≡ front (rerouted_line l.port l.bank l.select) 0 l.e l.initial.lines)
