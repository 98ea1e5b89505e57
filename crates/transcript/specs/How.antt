-- How the code gets there: what the pass over the records starts from, and the plain comparison. No public promise rests on this.
-- Assumes nothing.
use Rattle.std.specs.Prelude.{◌≡◌, ℕ, ◌+◌, ◌*◌, ◌/◌, ◌<◌, ◌≤◌, List, length, take, Ok}
use Rattle.fold.specs.Turn.{Turn}
use Rattle.fold.specs.Run.{going, run_of}
use Rattle.fold.specs.Output.{bytes_of}
use Rattle.numbers.specs.Bytes.{le_bytes}
use Rattle.banks.specs.declared.State.{State}
use Rattle.banks.specs.State.{fresh}
use Rattle.trailer.specs.Trailer.{trailer_of, records_of}
use Rattle.replay.specs.Replay.{replayed}
use Rattle.transcript.specs.Judge.{plain}
use Rattle.transcript.specs.declared.Verdict.{Verdict}
use Rattle.transcript.specs.declared.Verdict.TheVariants.{Same, Different}

-- the transcript of a log by what its records do
abbrev pub transcript_by : (State → List ℕ → Turn State ℕ) → List ℕ → List ℕ
transcript_by turn log = bytes_of (le_bytes 8) (run_of turn fresh (records_of log)).readings

-- the first n readings of two transcripts are the same
abbrev pub Agree : ℕ → List ℕ → List ℕ → Type 0
Agree n s t = take (8 * n) s ≡ take (8 * n) t

-- the log has replayed without refusal, its readings are in out, and the transcript ts is as long as they are
pub record Ready (log : List ℕ) (start : ℕ) (out ts : List ℕ) : Type 0 where
  pub records : ℕ
  pub edition : ℕ
  pub found : trailer_of log ≡ Ok (record { start = start; count = records; edition = edition })
  pub within : start + 16 * records ≤ length log
  pub accepted : (replayed log).course ≡ going
  pub wrote : take (length (plain log)) out ≡ plain log
  pub long : length ts ≡ length (plain log)

-- how the transcript compares with the readings as they are
pub data Plainly (ts out : List ℕ) : Verdict → Type 0 where
  all : Agree (length ts / 8) ts out → Plainly ts out Same
  until : {i : ℕ} → i < length ts / 8 → Agree i ts out → (Agree (i + 1) ts out → ⊥) → Plainly ts out (Different i)
