-- What is shown of the editions of paper 02: of any log, any records.
-- Assumes nothing.
use Rattle.std.specs.Prelude.{ℕ, Ok, ◌<◌, ◌≡◌, true, false, List, [], ◌∷◌}
use Rattle.refused.specs.declared.Refusal.TheVariants.{ValueOutOfRange, NotRouted, WrongSelect, StepAndDirection}
use Rattle.fold.specs.Run.{going, stopped}
use Rattle.edition.specs.Edition.{edition_of}
use Rattle.trailer.specs.Trailer.{trailer_of, records_of}
use Rattle.trailer.specs.declared.Trailer.{Trailer}
use Rattle.select.specs.Select.{encoder_routed}
use Rattle.encoder.specs.Encoder.{en, rst, counts_in_quadrature}
use Rattle.bank.specs.Bank.{encoder_at}
use Rattle.banks.specs.State.{bank_at}
use Rattle.replay.specs.Replay.{played, replay_of}
use Rattle.replay.specs.Facts.{bytes}

pub record Editions : Type 0 where
  -- l: "Edition 3 is edition 2 with one change": a log of edition 3 that is accepted replays as the log of edition 2 that has the same records
  pub as_two : (log other : List ℕ) (t u : Trailer) (room : ℕ) → trailer_of log ≡ Ok t → t.edition ≡ 3 → trailer_of other ≡ Ok u → u.edition ≡ 2
      → records_of other ≡ records_of log → (replay_of log room).course ≡ going → replay_of other room ≡ replay_of log room
  -- "Step-and-direction mode goes": after any records of edition 3 an encoder that is routed and enabled and not reset counts in quadrature
  pub in_quadrature : (rs : List (List ℕ)) (k i : ℕ) → k < 2 → let b = bank_at k (played (edition_of 3) rs).state in let cnfg = (encoder_at i b).cnfg in
      en cnfg ≡ true → rst cnfg ≡ false → counts_in_quadrature (encoder_routed false b.select i) cnfg ≡ encoder_routed false b.select i
  -- SELECT 10, then CNFG with EN 1 and MODE 1: edition 3 refuses what edition 2 takes; where the encoder is not routed 9 comes first
  pub goes_in_two : (played (edition_of 2) (bytes 1 0 0 10 ∷ bytes 1 1 0 5 ∷ [])).course ≡ going
  pub stops_in_three : (played (edition_of 3) (bytes 1 0 0 10 ∷ bytes 1 1 0 5 ∷ [])).course ≡ stopped StepAndDirection
  pub nine_first : (played (edition_of 3) (bytes 1 1 0 5 ∷ [])).course ≡ stopped NotRouted
  -- n: "Edition 4 logs are for" the myRIO's ports. "10 is never given"
  pub never_ten : (rs : List (List ℕ)) → (played (edition_of 4) rs).course ≡ stopped WrongSelect → ⊥
  -- the one encoder by bit 5 and not by bit 4; PWM 0 by bit 2; the I2C by bit 7; the reserved bit is out of range
  pub encoder_is_routed : (played (edition_of 4) (bytes 1 0 0 32 ∷ bytes 1 1 0 1 ∷ bytes 3 1 0 1 ∷ [])).course ≡ going
  pub not_by_bit_4 : (played (edition_of 4) (bytes 1 0 0 16 ∷ bytes 1 1 0 1 ∷ [])).course ≡ stopped NotRouted
  pub pwm_is_routed : (played (edition_of 4) (bytes 1 0 0 4 ∷ bytes 1 2 1 1 ∷ [])).course ≡ going
  pub i2c_is_routed : (played (edition_of 4) (bytes 1 0 0 128 ∷ bytes 1 3 0 80 ∷ [])).course ≡ going
  pub reserved : (played (edition_of 4) (bytes 1 0 0 64 ∷ [])).course ≡ stopped ValueOutOfRange
