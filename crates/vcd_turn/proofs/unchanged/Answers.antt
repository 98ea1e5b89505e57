-- One channel more has not changed, and at the end none has. Assumes nothing.
use Rattle.std.proofs.Common.{rules, ◌<◌, ◌∙◌, length, length-set, arith, ap, replicate}
use Rattle.vcd_turn.proofs.Channels.{pins_kept, one_more, all_unchanged}
use Rattle.vcd_turn.proofs.unchanged.Goals as goal

pub loop-c-preserved : goal.loop-c-preserved
loop-c-preserved c =
    let long : c.loop-c.c-index < length c.loop-c.c-items = omega arith in
    record {
      long = search (rules, length-set);
      pins = pins_kept c.loop-c.c-items c.loop-c.c-index long ∙ c.loop-c.invariant.pins;
      past = one_more c.loop-c.c-items c.loop-c.c-index long c.loop-c.invariant.past;
    }

pub returns-clause-changed : goal.returns-clause-changed
returns-clause-changed c =
    all_unchanged c.loop-c.c-items (λ k h. c.loop-c.invariant.past k (omega arith)) ∙ ap (λ n. replicate n 0) c.loop-c.invariant.long
