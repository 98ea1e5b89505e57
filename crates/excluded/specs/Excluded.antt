-- Paper 01, "How much each contract must say": "These must be excluded". Each stands here as a function, in all else as right as
-- it can be, and none of them meets the promise. Assumes nothing.
use Rattle.std.specs.Prelude.{ℕ, Ok, suc, ◌*◌, ◌≤◌, ◌≡◌, List, [], map, pos, length, take, drop}
use Rattle.edition.specs.declared.Edition.{Edition}
use Rattle.refused.specs.declared.Refusal.{Refusal}
use Rattle.refused.specs.Number.{number_of}
use Rattle.fold.specs.Turn.{lift, retell}
use Rattle.fold.specs.Run.{Run, halted, under, resumed, run_of}
use Rattle.fold.specs.Output.{refusal_of}
use Rattle.encoder.specs.declared.Encoder.{Encoder}
use Rattle.wire.specs.Decode.{reads_in}
use Rattle.trailer.specs.Trailer.{trailer_of, records_of, edition_in}
use Rattle.trailer.specs.declared.Trailer.{Trailer}
use Rattle.banks.specs.declared.State.{State}
use Rattle.banks.specs.State.{fresh, both_banks}
use Rattle.replay.specs.Replay.{played, replay_of}
use Rattle.walk.specs.Turn.{turn_of, written}
use Rattle.rate.specs.Rate.{pwm, spi, Outcome}

-- a replay that goes by `run` on with the records of a log that none of 1 to 6 refuses: it gives the answer and the output that `replay` promises
abbrev pub Meets : (Edition → List (List ℕ) → Run State ℕ) → Type 0
Meets run = (log out : List ℕ) (t : Trailer) → trailer_of log ≡ Ok t → 8 * reads_in (records_of log) ≤ length out
    → let x = run (edition_in log) (records_of log) in let y = replay_of log (length out) in
    (number_of (refusal_of x.course) ≡ number_of (refusal_of y.course)) × (x.applied ≡ y.applied) × (written x out ≡ written y out)

-- a state whose counts are all 0
abbrev pub uncounted : Encoder → Encoder
uncounted e = record { count = pos 0; cnfg = e.cnfg; stat = e.stat; pins = e.pins; seen = e.seen }

abbrev pub unmoved : State → State
unmoved = both_banks (λ b. record { select = b.select; encoders = map uncounted b.encoders; pwms = b.pwms; i2c = b.i2c })

-- by paper 01's whole log, and a log that reads SELECT where it is 0; by paper 01's requests PWM 1,000 and 40 Hz, SPI 4,000,000
-- and 40 Hz with tolerance 0
pub record Excluded : Type 0 where
  -- "a replay that refuses all", each by any refusal, and so by any number but 0
  pub refuses_all : (k : List (List ℕ) → Refusal) → Meets (λ e rs. halted fresh 0 [] (k rs)) → ⊥
  -- "one that never moves a count", or "always prints one reading", any v
  pub never_moves : Meets (λ e rs. run_of (λ s r. lift unmoved (turn_of e s r)) fresh rs) → ⊥
  pub one_reading : (v : ℕ) → Meets (λ e rs. run_of (λ s r. retell (λ (w : ℕ). v) (turn_of e s r)) fresh rs) → ⊥
  -- "one that applies the first record and then only advances its tally": the others leave the state, and what they read is read there
  pub first_only : Meets (λ e rs. resumed (λ s r. lift (λ (t : State). s) (turn_of e s r)) (played e (take 1 rs)) (drop 1 rs)) → ⊥
  -- "an invented applied tally": by any number more than were applied
  pub invented_tally : (k : List (List ℕ) → ℕ) → Meets (λ e rs. resumed (turn_of e) (under fresh (suc (k rs)) []) rs) → ⊥
  -- "a rate finder with a fixed pair", any pair and period
  pub fixed_pwm : (c x p : ℕ) → ((f tol : ℕ) → Outcome (pwm 1_000) f tol (0, c, x, p)) → ⊥
  pub fixed_spi : (c x p : ℕ) → ((f tol : ℕ) → Outcome (spi 1_000) f tol (0, c, x, p)) → ⊥
  -- the run that paper 01 asks for is not excluded
  pub right : Meets played
