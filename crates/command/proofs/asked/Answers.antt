-- `command::asked` meets its contract. Assumes nothing.
use Rattle.std.proofs.Common.{arith}
use Rattle.laws.proofs.Cases.{cases, taken, left}
use Rattle.rate_print.proofs.Says.{asks, asks_else}
use Rattle.command.specs.Asked.{command_of}
use Rattle.command.proofs.asked.Goals as goal

ruleset told = (asks, asks_else, taken, left, cases, arith)

pub returns-in-0 : goal.returns-in-0
unfolding command_of
returns-in-0 c = search told

pub returns-in-2 : goal.returns-in-2
unfolding command_of
returns-in-2 c = search told

pub returns-in-3 : goal.returns-in-3
unfolding command_of
returns-in-3 c = search told

pub returns-in-3-2 : goal.returns-in-3-2
unfolding command_of
returns-in-3-2 c = search told

pub returns-in-4 : goal.returns-in-4
unfolding command_of
returns-in-4 c = search told

pub returns-in_default-2 : goal.returns-in_default-2
unfolding command_of
returns-in_default-2 c = search told
