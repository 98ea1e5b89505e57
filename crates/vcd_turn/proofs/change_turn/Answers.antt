-- The change is written into its encoder's channel. Assumes nothing.
use Rattle.std.proofs.Common.{rules, ◌≡◌, ◌<◌, ◌/◌, length, get_or}
use Rattle.vcd.specs.How.{pins_of}
use Rattle.vcd_turn.proofs.Channels.{none, pins_set, changed_set, pins_at}
use Rattle.vcd_turn.proofs.change_turn.Goals as goal

pub returns-then-taken : goal.returns-then-taken
returns-then-taken c =
    let e = c.args.wire / 2 in
    let long : e < length c.args.r.channels = search rules in
    let old : get_or (pins_of c.args.r.channels) e 0 ≡ (get_or c.args.r.channels e none).pins = pins_at c.args.r.channels e long in
    rw (pins_set, changed_set, old) (search rules)
