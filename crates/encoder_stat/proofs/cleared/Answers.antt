use lib.Bits.{bit_and}
use Rattle.std.proofs.Common.{true, false, ◌&&◌, ◌%◌}
use Rattle.encoder_stat.specs.Stat.{stat_of}
use Rattle.encoder_stat.proofs.Marks.{by_bits}
use Rattle.encoder_stat.proofs.cleared.Goals as goal

pub returns-in-true-true : goal.returns-in-true-true
unfolding stat_of
returns-in-true-true c =
    rw (c.in-true-true.is-0, c.in-true-true.is-1) (by_bits (λ s. s % 2) (λ d r u s a o. stat_of d (r && false) (u && false) (s && false) (a && false) (o && false)) tt c.args.stat)

pub returns-in-true-false : goal.returns-in-true-false
unfolding stat_of
returns-in-true-false c =
    rw (c.in-true-false.is-0, c.in-true-false.is-1) (by_bits (λ s. bit_and s 61) (λ d r u s a o. stat_of d (r && false) (u && true) (s && true) (a && true) (o && true)) tt c.args.stat)

pub returns-in-false-true : goal.returns-in-false-true
unfolding stat_of
returns-in-false-true c =
    rw (c.in-false-true.is-0, c.in-false-true.is-1) (by_bits (λ s. s % 4) (λ d r u s a o. stat_of d (r && true) (u && false) (s && false) (a && false) (o && false)) tt c.args.stat)

pub returns-in-false-false : goal.returns-in-false-false
unfolding stat_of
returns-in-false-false c =
    rw (c.in-false-false.is-0, c.in-false-false.is-1) (by_bits (λ s. s) (λ d r u s a o. stat_of d (r && true) (u && true) (s && true) (a && true) (o && true)) tt c.args.stat)
