-- The fact of specs/Excluded.antt: by paper 01's whole log and a log that reads SELECT, and by paper 01's requests with tolerance 0.
-- Assumes nothing.
use Prim.Native.Nat.{ℕ, suc, ◌+◌, ◌*◌, ◌%◌}
use mathlib.Core.Path.{◌≡◌, refl, sym, ap}
use mathlib.Core.List.{List, [], ◌∷◌, ◌++◌}
use native.Mathlib.Omega.{arith}
use lib.ListN.{length, replicate}
use Rattle.laws.specs.Each.{map_from}
use Rattle.refused.specs.declared.Refusal.{Refusal}
use Rattle.refused.proofs.Numbers.{positive}
use Rattle.refused.specs.Number.{number, number_of}
use Rattle.fold.specs.Run.{Run, step, resumed, run_of, tally}
use Rattle.fold.specs.Output.{refusal_of, bytes_of, over, output_of}
use Rattle.fold.specs.Device.{records}
use Rattle.encoder.specs.Encoder.{stat_of}
use Rattle.select.specs.Select.{field_of, some}
use Rattle.numbers.specs.Bytes.{byte, le_of}
use Rattle.trailer.specs.Trailer.{records_of, trailer_of}
use Rattle.wire.specs.Decode.{decode_of}
use Rattle.records.specs.Record.{named_of, write_of, read_of, pins_of, ticks_of, answer_of}
use Rattle.bank.specs.Bank as bank
use Rattle.replay.specs.Replay.{played, play_of, replay_from, replay_of}
use Rattle.banks.specs.declared.State.{State}
use Rattle.walk.specs.Turn.{turn_of, written}
use Rattle.replay.specs.Facts.{whole}
use Rattle.replay.proofs.Proved.{replayed}
use Rattle.rate.specs.Rate.{pwm, spi, Outcome, outside, loose, none, pair}
use Rattle.rate.specs.declared.Rule.{Rule}
use Rattle.excluded.specs.Excluded.{Meets, Excluded}

-- ---- logs

-- a log that reads SELECT of the fresh state, which is 0
abbrev reading : List ℕ
reading = 2 ∷ replicate 15 0 ++ 16 ∷ 0 ∷ 0 ∷ 0 ∷ 1 ∷ 0 ∷ 81 ∷ 77 ∷ []

abbrev output : List ℕ
output = replicate 8 0

abbrev first_byte : List ℕ → ℕ
first_byte out = byte out 0

refused_none : (k : Refusal) → number k ≡ 0 → ⊥
refused_none k e = omega (arith, positive k)

applied_five : (k : ℕ) → suc k + 1 + 1 + 1 + 1 + 1 ≡ 5 → ⊥
applied_five k e = omega arith

right : Meets played
right log out t e enough =
    let is = replayed log t (length out) e enough in
    (ap (λ (x : Run State ℕ). number_of (refusal_of x.course)) (sym is), ap (λ (x : Run State ℕ). x.applied) (sym is), ap (λ (x : Run State ℕ). written x out) (sym is))

-- ---- requests with tolerance 0: the period of a pair that is answered, times the rate, is the clock

exact : (u : Rule) (f : ℕ) {v : ℕ × ℕ × ℕ × ℕ} → Outcome u f 0 v → v.0 ≡ 0 → f * v.3 ≡ u.clock
exact u f (outside a) e = absurd (omega arith)
exact u f (loose a t) e = absurd (omega arith)
exact u f (none a t g) e = absurd (omega arith)
exact u f (pair a t w) e = let h = w.within in omega arith

fixed : (u : Rule) (f g c x p : ℕ) → ((f tol : ℕ) → Outcome u f tol (0, c, x, p)) → (f * p ≡ u.clock) × (g * p ≡ u.clock)
fixed u f g c x p h = (exact u f (h f 0) refl, exact u g (h g 0) refl)

-- ---- all

pub excluded : Excluded
unfolding replay_of replay_from trailer_of play_of run_of resumed step tally records turn_of bank.turn_of le_of decode_of named_of write_of read_of pins_of ticks_of answer_of field_of some map_from stat_of bank.fresh bytes_of over output_of
excluded = record {
  refuses_all = λ k h. refused_none (k (records_of whole)) (h whole output _ refl (omega arith)).0;
  never_moves = λ h. let e : ◌≡◌ {A = ℕ} 0 1 = ap first_byte (h whole output _ refl (omega arith)).2 in omega arith;
  one_reading = λ v h.
      let a : v % 256 ≡ 1 = ap first_byte (h whole output _ refl (omega arith)).2 in
      let b : v % 256 ≡ 0 = ap first_byte (h reading output _ refl (omega arith)).2 in
      omega arith;
  first_only = λ h. let e : ◌≡◌ {A = ℕ} 0 1 = ap first_byte (h whole output _ refl (omega arith)).2 in omega arith;
  invented_tally = λ k h. applied_five _ (h whole output _ refl (omega arith)).1;
  fixed_pwm = λ c x p h. let e = fixed (pwm 1_000) 1_000_000 40_000 c x p h in omega arith;
  fixed_spi = λ c x p h. let e = fixed (spi 1_000) 4_000_000_000 40_000 c x p h in omega arith;
  right = right;
}
