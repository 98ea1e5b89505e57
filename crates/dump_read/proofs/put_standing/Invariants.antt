-- The encoders passed are told. Assumes nothing.
use Rattle.std.proofs.Common.{◌≤◌, ◌+◌, take}
use Rattle.vcd.specs.Entries.{entries_at}
use Rattle.vcd.specs.How.{pins_of, changed_of}
use Rattle.dump_read.specs.How.{Stored}
use Rattle.dump_read.proofs.put_standing.Given as goal

abbrev pub invariant-loop-e : goal.invariant-loop-e
invariant-loop-e l = record {
  near : l.n ≤ l.count + l.e;
  told : Stored l.fn.out l.count (entries_at l.r.now 0 (take l.e (pins_of l.r.channels)) (take l.e (changed_of l.r.channels))) l.out l.n;
}
