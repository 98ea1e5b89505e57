use lib.Bits.{bit_or}
use Rattle.std.proofs.Common.{Bool, cond, ◌*◌, ◌/◌, ◌%◌}
use Rattle.encoder_stat.specs.Stat.{stat_of}
use Rattle.encoder_stat.proofs.Marks.{by_direction}
use Rattle.encoder_stat.proofs.Steps.{at_end, off_end, step_at, step_between}
use Rattle.encoder_stat.proofs.marked.Goals as goal

pub returns-then-at-before_unsigned : goal.returns-then-at-before_unsigned
unfolding stat_of
returns-then-at-before_unsigned c =
    let at = c.args.at in
    let end = c.before_unsigned in
    let here = at_end at c.ranges.at.sfits end.result end.type_inv _ end.ensures c.if-at-before_unsigned.true in
    step_at at c.ranges.at.sfits c.args.back c.args.stat _ _ here
    (by_direction (λ (b : Bool). cond b 0 4294967295) (λ d s. bit_or (bit_or (bit_or (s / 2 * 2) d) 4) (s / 4 % 2 * 16)) tt tt c.args.back c.args.stat)

pub returns-then-at-before_signed : goal.returns-then-at-before_signed
unfolding stat_of
returns-then-at-before_signed c =
    let at = c.args.at in
    let end = c.before_signed in
    let here = at_end at c.ranges.at.sfits end.result end.type_inv _ end.ensures c.if-at-before_signed.true in
    step_at at c.ranges.at.sfits c.args.back c.args.stat _ _ here
    (by_direction (λ (b : Bool). cond b 2147483648 2147483647) (λ d s. bit_or (bit_or (bit_or (s / 2 * 2) d) 8) (s / 8 % 2 * 32)) tt tt c.args.back c.args.stat)

pub returns-else-at-before_signed : goal.returns-else-at-before_signed
unfolding stat_of
returns-else-at-before_signed c =
    let at = c.args.at in
    let first = c.before_unsigned in
    let second = c.before_signed in
    step_between at c.ranges.at.sfits c.args.back c.args.stat _
    (off_end at c.ranges.at.sfits first.result first.type_inv _ first.ensures c.if-at-before_unsigned.false)
    (off_end at c.ranges.at.sfits second.result second.type_inv _ second.ensures c.if-at-before_signed.false)
    (by_direction (λ (b : Bool). 1) (λ d s. bit_or (s / 2 * 2) d) tt tt c.args.back c.args.stat)
