-- One encoder more is told, and at the end all are. Assumes nothing.
use Rattle.std.proofs.Common.{rules, arith}
use Rattle.dump_read.proofs.Stores.{standing_none, standing_next, standing_done}
use Rattle.dump_read.proofs.put_standing.Goals as goal

pub loop-e-init : goal.loop-e-init
loop-e-init c = record { near = omega arith; told = search standing_none }

pub loop-e-preserved : goal.loop-e-preserved
loop-e-preserved c = record { near = omega arith; told = search (standing_next, rules) }

pub returns-clause-stored : goal.returns-clause-stored
returns-clause-stored c = search (standing_done, rules)
