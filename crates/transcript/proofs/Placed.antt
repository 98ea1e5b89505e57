-- Where a record's reading stands in the transcripts, plain and negated.
-- Assumes nothing.
use Rattle.std.proofs.Common.{◌≡◌, ℕ, ◌*◌, ◌^◌, ◌<◌, Bool, true, false, cond, List, [], ◌∷◌, ◌++◌, length, sym, refl, ap, ◌∙◌, arith, length-append}
use mathlib.Core.Bool.{false≢true}
use lib.ListN.{length-map}
use Rattle.refused.specs.declared.Refusal.{Refusal}
use Rattle.fold.specs.Turn.{Turn, goes, reads, refused, retell, applies, answers, leaves, given}
use Rattle.fold.specs.Run.{Run, going, under, after, halted, resumed, run_of}
use Rattle.fold.proofs.Turns.{retell_applies, retell_given, retell_leaves}
use Rattle.fold.proofs.Runs.{halts, first_applied, first_refused, every_run}
use Rattle.fold.proofs.Laws.{room_exact, first_goes, rest_goes, rest_readings}
use Rattle.fold.proofs.Written.{length_bytes}
use Rattle.numbers.specs.Bytes.{le_of, le_bytes}
use Rattle.wire.specs.Decode.{asks, reads_in}
use Rattle.trailer.specs.Trailer.{records_of, edition_in}
use Rattle.banks.specs.declared.State.{State}
use Rattle.banks.specs.State.{fresh}
use Rattle.replay.specs.Replay.{played, replayed}
use Rattle.walk.specs.Turn.{turn_of}
use Rattle.replay.proofs.Numbers as numbers
use Rattle.transcript.specs.Judge.{neg, of_cntr, negating, plain, opposite}
use Rattle.transcript.proofs.Numbers.{said, said_small, reading_at}
use Rattle.transcript.proofs.Records.{reads_exactly, cntr_small}

-- ---- the negated run beside the plain one: the same but for the readings, of which there are as many

-- a reading of the record r
abbrev pub turned : List ℕ → ℕ → ℕ
turned r v = cond (of_cntr r) (neg v) v

module _ (turn : State → List ℕ → Turn State ℕ) where
  pub record Beside (y x : Run State ℕ) : Type 0 where
    pub course : y.course ≡ x.course
    pub state : y.state ≡ x.state
    pub long : length y.readings ≡ length x.readings

  pub beside : (b : State) (rs : List (List ℕ)) → Beside (run_of (negating turn) b rs) (run_of turn b rs)
  unfolding run_of resumed
  beside = every_run turn (λ b rs x. Beside (run_of (negating turn) b rs) x) none more last
    where
      none : (b : State) → Beside (run_of (negating turn) b []) (under b 0 [])
      none b = record { course = refl; state = refl; long = refl }

      more : (b : State) (r : List ℕ) (rs : List (List ℕ)) → applies (turn b r) ≡ true
          → Beside (run_of (negating turn) (leaves b (turn b r)) rs) (run_of turn (leaves b (turn b r)) rs)
          → Beside (run_of (negating turn) b (r ∷ rs)) (after 1 (given (turn b r)) (run_of turn (leaves b (turn b r)) rs))
      more b r rs a ih =
          let x = turn b r in
          let e = first_applied (negating turn) b r rs (retell_applies (turned r) x ∙ a) ∙ ap (λ (s : State). after 1 (given (retell (turned r) x)) (run_of (negating turn) s rs)) (retell_leaves (turned r) b x) in
          let ys = (run_of (negating turn) (leaves b x) rs).readings in
          rw e (record {
            course = ih.course;
            state = ih.state;
            long = omega (arith, length-append (given (retell (turned r) x)) ys, length-append (given x) (run_of turn (leaves b x) rs).readings, ap length (retell_given (turned r) x), length-map (given x) (turned r), ih.long);
          })

      last : (b : State) (r : List ℕ) (rs : List (List ℕ)) (k : Refusal) → turn b r ≡ refused k → Beside (run_of (negating turn) b (r ∷ rs)) (halted b 0 [] k)
      last b r rs k e = rw (first_refused (negating turn) b r rs k (ap (retell (turned r)) e)) (record { course = refl; state = refl; long = refl })

-- ---- a reading, behind those of the records before

module _ (turn : State → List ℕ → Turn State ℕ) (b : State) (before : List (List ℕ)) (r : List ℕ) (later : List (List ℕ)) (whole : (run_of turn b (before ++ r ∷ later)).course ≡ going) where
  pub goes_before : (run_of turn b before).course ≡ going
  goes_before = first_goes turn b before (r ∷ later) whole

  pub applied : applies (turn (run_of turn b before).state r) ≡ true
  applied = by (turn (run_of turn b before).state r) refl
    where
      by : (x : Turn State ℕ) → turn (run_of turn b before).state r ≡ x → applies x ≡ true
      by (goes s) e = refl
      by (reads v) e = refl
      by (refused k) e = absurd (halts k (ap (λ (x : Run State ℕ). x.course) (sym (first_refused turn (run_of turn b before).state r later k e)) ∙ rest_goes turn b before (r ∷ later) whole))

  pub splits : (v : ℕ) → turn (run_of turn b before).state r ≡ reads v
      → (ws : List ℕ) × ((run_of turn b (before ++ r ∷ later)).readings ≡ (run_of turn b before).readings ++ v ∷ ws)
  splits v e =
      let s = (run_of turn b before).state in
      let first = first_applied turn s r later applied ∙ ap (λ (t : Turn State ℕ). after 1 (given t) (run_of turn (leaves s t) later)) e in (
        (run_of turn s later).readings,
        rest_readings turn b before (r ∷ later) whole ∙ ap (λ (x : Run State ℕ). (run_of turn b before).readings ++ x.readings) first,
      )

-- one that a record asks for
pub answered : (x : Turn State ℕ) → answers x ≡ true → (v : ℕ) × (x ≡ reads v)
answered (goes s) h = absurd (false≢true h)
answered (reads v) h = (v, refl)
answered (refused k) h = absurd (false≢true h)

said_turned : (c : Bool) (v : ℕ) → (c ≡ true → v < 2 ^ 32) → said (cond c (neg v) v) ≡ cond c (neg (said v)) (said v)
said_turned true v h = rw (said_small v (h refl)) (said_small (neg v) (omega arith))
said_turned false v h = refl

-- ---- in the transcripts of a log that replays without refusal

module _ (log : List ℕ) (accepted : (replayed log).course ≡ going) where
  abbrev T : State → List ℕ → Turn State ℕ
  T = turn_of (edition_in log)

  pub goes_through : (played (edition_in log) (records_of log)).course ≡ going
  goes_through = sym (ap (λ (x : Run State ℕ). x.course) (numbers.accepted log 16_384 accepted)) ∙ accepted

  pub opposite_goes : (run_of (negating T) fresh (records_of log)).course ≡ going
  opposite_goes = (beside T fresh (records_of log)).course ∙ goes_through

  as_many : (rs : List (List ℕ)) → (played (edition_in log) rs).course ≡ going → length (played (edition_in log) rs).readings ≡ reads_in rs
  as_many = room_exact T asks (reads_exactly (edition_in log)) fresh

  pub plain_long : length (plain log) ≡ 8 * reads_in (records_of log)
  plain_long = omega (arith, length_bytes (le_bytes 8) (λ v. refl) (played (edition_in log) (records_of log)).readings, as_many (records_of log) goes_through)

  pub opposite_long : length (opposite log) ≡ length (plain log)
  opposite_long = omega (arith, length_bytes (le_bytes 8) (λ v. refl) (run_of (negating T) fresh (records_of log)).readings, (beside T fresh (records_of log)).long, length_bytes (le_bytes 8) (λ v. refl) (played (edition_in log) (records_of log)).readings)

  module _ (before : List (List ℕ)) (r : List ℕ) (later : List (List ℕ)) (cut : records_of log ≡ before ++ r ∷ later) where
    goes_on : (played (edition_in log) (before ++ r ∷ later)).course ≡ going
    goes_on = ap (λ (rs : List (List ℕ)). (played (edition_in log) rs).course) (sym cut) ∙ goes_through

    opposite_on : (run_of (negating T) fresh (before ++ r ∷ later)).course ≡ going
    opposite_on = (beside T fresh (before ++ r ∷ later)).course ∙ goes_on

    count : length (played (edition_in log) before).readings ≡ reads_in before
    count = as_many before (goes_before T fresh before r later goes_on)

    pub there_is : asks r ≡ true → (v : ℕ) × (T (played (edition_in log) before).state r ≡ reads v)
    there_is a = answered (T (played (edition_in log) before).state r) (reads_exactly (edition_in log) (played (edition_in log) before).state r (applied T fresh before r later goes_on) ∙ a)

    module _ (v : ℕ) (read : T (played (edition_in log) before).state r ≡ reads v) where
      pub shown : le_of 8 (plain log) (8 * reads_in before) ≡ said v
      shown =
          let cut-readings = splits T fresh before r later goes_on v read in
          rw (cut, cut-readings.1, ← count) (reading_at (played (edition_in log) before).readings v cut-readings.0)

      pub turned_over : le_of 8 (opposite log) (8 * reads_in before) ≡ said (turned r v)
      turned_over =
          let at = beside T fresh before in
          let opposed = ap (λ (s : State). negating T s r) at.state ∙ ap (retell (turned r)) read in
          let cut-readings = splits (negating T) fresh before r later opposite_on (turned r v) opposed in
          rw (cut, cut-readings.1, ← count, ← at.long) (reading_at (run_of (negating T) fresh before).readings (turned r v) cut-readings.0)

    -- what stands in the one by what stands in the other
    pub over : asks r ≡ true → le_of 8 (opposite log) (8 * reads_in before) ≡ turned r (le_of 8 (plain log) (8 * reads_in before))
    over a =
        let x = there_is a in
        turned_over x.0 x.1 ∙ said_turned (of_cntr r) x.0 (λ c. cntr_small (edition_in log) (played (edition_in log) before).state r x.0 c x.1) ∙ ap (turned r) (sym (shown x.0 x.1))
