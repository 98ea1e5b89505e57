-- Sums of our own, of paper 02's requests.
-- Assumes nothing.
use Rattle.std.specs.Prelude.{◌≡◌, true, false, [], ◌∷◌, pos, negsuc, ◌+ℤ◌, Some}
use Rattle.encoder_count.specs.Count.{pattern, wrap}
use Rattle.encoder.specs.Encoder.{marked}
use Rattle.encoder.specs.Facts.{played}
use Rattle.pwm.specs.Pwm.{next_of}
use Rattle.fold.specs.Turn.{refused}
use Rattle.refused.specs.declared.Refusal.TheVariants.{StopAfterAck}
use Rattle.i2c_code.specs.declared.Phase.TheVariants.{TxIdle}
use Rattle.i2c_code.specs.declared.Failure.TheVariants.{Data}
use Rattle.i2c.specs.I2c.{on_addr, on_cntl, on_answer, ran, go_turn, fresh}
use Rattle.sums.specs.Paper.{enabled, started}

pub record OurSums : Type 0 where
  -- b: from 0 one step down sets DIR and UOVR, and the step up again UOERR
  pub down : (played (0 ∷ 2 ∷ []) enabled).stat ≡ 5
  pub down_and_up : (played (0 ∷ 2 ∷ 0 ∷ []) enabled).stat ≡ 20
  -- from -2,147,483,648 one step down sets DIR and SOVR, and the count is 2,147,483,647
  pub signed_down : (marked true (pattern (negsuc 2_147_483_647)) 0 ≡ 9) × (wrap (negsuc 2_147_483_647 +ℤ negsuc 0) ≡ pos 2_147_483_647)
  -- e: with MAX 3 one step takes the counter from 5 to 0 in edition 1, to 6 in edition 2, and there from 65,535 to 0
  pub above_max : let g = (started 1).registers in (next_of false g 5 ≡ 0) × (next_of true g 5 ≡ 6) × (next_of true g 65_535 ≡ 0)
  -- h: START and a byte received with ACK, and then STOP alone, which is refused by 16
  pub no_stop : go_turn (on_cntl 4 (ran (on_cntl 11 (on_addr 1 fresh)))) ≡ refused StopAfterAck
  -- i: START and a byte to send: data that nobody acknowledges ends as before
  pub no_data : ((ran (on_answer 1 (on_cntl 3 fresh))).phase ≡ TxIdle) × ((ran (on_answer 1 (on_cntl 3 fresh))).failure ≡ Some Data)
