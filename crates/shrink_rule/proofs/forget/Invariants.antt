-- `shrink_rule::forget`: the places passed are gone over. Assumes nothing.
use Rattle.std.proofs.Common.{◌≡◌, ◌≤◌}
use Rattle.laws.proofs.Each.{front}
use Rattle.shrink_rule.proofs.Rules.{forgets}
use Rattle.shrink_rule.proofs.forget.Given as goal

abbrev pub invariant-loop-e : goal.invariant-loop-e
invariant-loop-e l = (l.e ≤ 20) × (l.last ≡ front (forgets l.bank) 0 l.e l.initial.last)
