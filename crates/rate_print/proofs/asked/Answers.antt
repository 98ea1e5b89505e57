-- `rate_print::asked` meets its contract. Assumes nothing.
use Rattle.rate_print.proofs.Says.{asks, asks_else}
use Rattle.rate_print.specs.Said.{question_of}
use Rattle.rate_print.proofs.asked.Goals as goal

ruleset told = (asks, asks_else)

pub returns-then-eq : goal.returns-then-eq
unfolding question_of
returns-then-eq c = search told

pub returns-then-eq-2 : goal.returns-then-eq-2
unfolding question_of
returns-then-eq-2 c = search told

pub returns-then-eq-3 : goal.returns-then-eq-3
unfolding question_of
returns-then-eq-3 c = search told

pub returns-then-eq-4 : goal.returns-then-eq-4
unfolding question_of
returns-then-eq-4 c = search told

pub returns-else-eq-4 : goal.returns-else-eq-4
unfolding question_of
returns-else-eq-4 c = search told
