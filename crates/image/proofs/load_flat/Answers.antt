use Rattle.std.proofs.Common.{rules}
use Rattle.numbers.specs.Bytes.{le_of}
use Rattle.codec.specs.How.{load_word}
use Rattle.image_words.specs.How.{i2c_of, encoder_of}
use Rattle.image_state.specs.How.{load_pwm, flat_of}
use Rattle.image.proofs.load_flat.Goals as goal

pub returns : goal.returns
unfolding flat_of
returns c =
    let s = c.args.s.now in
    let selects = c.load_each.ensures (le_of 8) s (λ i x h p. search rules) in
    let i2cs = c.load_each-2.ensures (load_word i2c_of) s (λ i x h p. search rules) in
    let encoders = c.load_each-3.ensures (load_word encoder_of) s (λ i x h p. search rules) in
    let pwms = c.load_each-4.ensures load_pwm s (λ i x h p. search rules) in
    rw (selects, i2cs, encoders, pwms)
