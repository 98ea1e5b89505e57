-- The channels passed have not changed, and no pins have. Assumes nothing.
use Rattle.std.proofs.Common.{◌≡◌, ℕ, ◌<◌, length, get_or}
use Rattle.vcd.specs.How.{pins_of}
use Rattle.vcd_turn.proofs.Channels.{none}
use Rattle.vcd_turn.proofs.unchanged.Given as goal

abbrev pub invariant-loop-c : goal.invariant-loop-c
invariant-loop-c l = record { long : length l.c-items ≡ 20; pins : pins_of l.c-items ≡ pins_of l.fn.channels; past : (k : ℕ) → k < l.c-index → (get_or l.c-items k none).changed ≡ 0 }
