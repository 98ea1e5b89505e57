use Rattle.std.proofs.Common.{rules}
use Rattle.codec.specs.How.{ok_word}
use Rattle.image_words.specs.How.{is_encoder, is_i2c, is_select}
use Rattle.image_pwm.specs.How.{is_registers}
use Rattle.image_state.specs.How.{is_carried, ok_wave, ok_quick}
use Rattle.image_state.proofs.Tests.{state_not, state_tested}
use Rattle.image_state.proofs.is_state.Goals as goal

pub returns-then-s-lt864 : goal.returns-then-s-lt864
returns-then-s-lt864 c = search state_not

pub returns : goal.returns
returns c =
    let s = c.args.s.now in
    state_tested s _ _ _ _ _ _ _ _ _ c.if-s-lt864.false c.le64-head.ensures c.is_head.ensures
    (c.all_at.ensures (is_carried _) s (λ i t h p. search rules))
    (c.all_at-2.ensures (ok_word is_select) s (λ i t h p. search rules))
    (c.all_at-3.ensures (ok_word is_i2c) s (λ i t h p. search rules))
    (c.all_at-4.ensures (ok_word is_encoder) s (λ i t h p. search rules))
    (c.all_at-5.ensures (ok_word is_registers) s (λ i t h p. search rules))
    (c.all_at-6.ensures ok_wave s (λ i t h p. search rules))
    (c.all_at-7.ensures ok_quick s (λ i t h p. search rules))
