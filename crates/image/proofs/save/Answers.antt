use Rattle.std.proofs.Common.{◌≡◌, ◌≤◌, length, arith}
use Rattle.numbers.specs.Bytes.{le_bytes}
use Rattle.image.proofs.Steps.{same_long}
use Rattle.image.proofs.Whole.{copied, stream_saved}
use Rattle.laws.proofs.Each.{long_field}
use Rattle.image.proofs.save.Goals as goal

pub returns : goal.returns
returns c =
    let x = c.args.x in
    let long : length x.carried ≡ 16 = search long_field in
    let o = c.args.out.now in
    let room : 864 ≤ length c.put64-2.new.out = omega (arith, c.requires.size_in_bounds, same_long o c.put64.new.out (le_bytes 8 c.head_number.result) 0 c.put64.ensures, same_long c.put64.new.out c.put64-2.new.out (le_bytes 8 x.applied) 8 c.put64-2.ensures) in
    stream_saved x _ o _ _ _ _ _ _ c.requires.saves c.requires.size_in_bounds c.head_number.ensures c.put64.ensures c.put64-2.ensures
    (copied c.put64-2.new.out x.carried c.copy_from_slice.new.self c.copy_from_slice.ensures.after long room) long
    c.save_firsts.ensures.out_after c.save_firsts.ensures.selects_len c.save_firsts.ensures.i2cs_len
    c.save_encoders.ensures.out_after c.save_encoders.ensures.encoders_len
    c.save_pwms.ensures.out_after c.save_pwms.ensures.pwms_len
