-- Paper 02, c: the readers' transcripts judged. A transcript is bytes: "readings as 8-byte numbers, in log order".
-- Assumes nothing.
use Rattle.std.specs.Prelude.{◌≡◌, ℕ, ◌+◌, ◌-◌, ◌*◌, ◌%◌, ◌^◌, Bool, cond, ◌&&◌, List, length, take, ◌==◌, ◌≢◌, Result, Ok, Err}
use Rattle.fold.specs.Turn.{Turn, retell}
use Rattle.fold.specs.Run.{going, stopped, run_of}
use Rattle.fold.specs.Output.{bytes_of}
use Rattle.numbers.specs.Bytes.{byte, le_bytes}
use Rattle.trailer.specs.Trailer.{records_of, edition_in}
use Rattle.banks.specs.declared.State.{State}
use Rattle.banks.specs.State.{fresh}
use Rattle.replay.specs.Replay.{played, replayed}
use Rattle.walk.specs.Turn.{turn_of}
use Rattle.transcript.specs.declared.Verdict.{Verdict}
use Rattle.transcript.specs.declared.Verdict.TheVariants.{Same, Negated, Both, Different}
use Rattle.refused.specs.declared.Refusal.{Refusal}
use Rattle.refused.specs.Number.{number}

-- "negated modulo 2^32"
abbrev pub neg : ℕ → ℕ
neg v = (2 ^ 32 - v % 2 ^ 32) % 2 ^ 32

-- a record of block 1 and register 2: what it reads is an encoder's CNTR
abbrev pub of_cntr : List ℕ → Bool
of_cntr r = byte r 1 == 1 && byte r 3 == 2

-- what a record does, "once every encoder CNTR reading is negated"
abbrev pub negating : (State → List ℕ → Turn State ℕ) → State → List ℕ → Turn State ℕ
negating turn s r = retell (λ (v : ℕ). cond (of_cntr r) (neg v) v) (turn s r)

-- the transcript of a log: its readings, plainly and negated
abbrev pub plain : List ℕ → List ℕ
plain log = bytes_of (le_bytes 8) (played (edition_in log) (records_of log)).readings

abbrev pub opposite : List ℕ → List ℕ
opposite log = bytes_of (le_bytes 8) (run_of (negating (turn_of (edition_in log))) fresh (records_of log)).readings

-- What is answered to a log and a transcript ts, in numbers: the refusal, 0 for none; the verdict; and for the verdict 4 the index.
pub data Judged (log ts : List ℕ) : ℕ × ℕ × ℕ → Type 0 where
  -- "an accepted log that replays without refusal; otherwise give that log's refusal (6 is not given here ..)"
  refused : {k : Refusal} → (replayed log).course ≡ stopped k → Judged log ts (number k, 0, 0)
  -- "A transcript of another length than the readings is refused as 17, after all log checks"
  other_length : (replayed log).course ≡ going → (length ts ≢ length (plain log)) → Judged log ts (17, 0, 0)
  -- 1 "same", 2 "same once every encoder CNTR reading is negated", 3 "both, given instead of either when both hold"
  same : (replayed log).course ≡ going → ts ≡ plain log → (ts ≢ opposite log) → Judged log ts (0, 1, 0)
  negated : (replayed log).course ≡ going → (ts ≢ plain log) → ts ≡ opposite log → Judged log ts (0, 2, 0)
  both : (replayed log).course ≡ going → ts ≡ plain log → ts ≡ opposite log → Judged log ts (0, 3, 0)
  -- 4 "if none of these, different, with the index of the first reading that differs from the plain replay"
  different : {i : ℕ} → (replayed log).course ≡ going → length ts ≡ length (plain log) → (ts ≢ opposite log)
      → take (8 * i) ts ≡ take (8 * i) (plain log) → (take (8 * (i + 1)) ts ≢ take (8 * (i + 1)) (plain log)) → Judged log ts (0, 4, i)

-- the numbers of an answer
abbrev pub verdict_numbers : Result Verdict Refusal → ℕ × ℕ × ℕ
verdict_numbers (Ok Same) = (0, 1, 0)
verdict_numbers (Ok Negated) = (0, 2, 0)
verdict_numbers (Ok Both) = (0, 3, 0)
verdict_numbers (Ok (Different i)) = (0, 4, i)
verdict_numbers (Err k) = (number k, 0, 0)

abbrev pub Answer : List ℕ → List ℕ → Result Verdict Refusal → Type 0
Answer log ts r = Judged log ts (verdict_numbers r)
