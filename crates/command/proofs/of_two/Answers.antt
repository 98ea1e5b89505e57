-- `command::of_two` meets its contract. Assumes nothing.
use Rattle.rate_print.proofs.Says.{asks, asks_else}
use Rattle.command.specs.Asked.{of_two}
use Rattle.command.proofs.of_two.Goals as goal

ruleset told = (asks, asks_else)

pub returns-then-eq : goal.returns-then-eq
unfolding of_two
returns-then-eq c = search told

pub returns-then-eq-2 : goal.returns-then-eq-2
unfolding of_two
returns-then-eq-2 c = search told

pub returns-else-eq-2 : goal.returns-else-eq-2
unfolding of_two
returns-else-eq-2 c = search told
