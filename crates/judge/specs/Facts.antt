-- What is shown of every log and transcript.
-- Assumes nothing.
use Rattle.std.specs.Prelude.{ℕ, ◌≡◌, ◌⊎◌, List, ◌∷◌, ◌++◌, true}
use Rattle.edition.specs.declared.Edition.{Edition}
use Rattle.fold.specs.Turn.{reads}
use Rattle.refused.specs.declared.Refusal.TheVariants.{OutputTooShort}
use Rattle.fold.specs.Run.{going, stopped}
use Rattle.trailer.specs.Trailer.{records_of, edition_in}
use Rattle.replay.specs.Replay.{played, replayed}
use Rattle.walk.specs.Turn.{turn_of}
use Rattle.transcript.specs.Judge.{of_cntr, plain, Judged}

-- "all counts 0 or 2^31, or no such reading": what each record reads that reads an encoder's CNTR
abbrev pub Still : Edition → List (List ℕ) → Type 0
Still o rs = (before after : List (List ℕ)) (r : List ℕ) (v : ℕ) → rs ≡ before ++ r ∷ after → of_cntr r ≡ true
    → turn_of o (played o before).state r ≡ reads v → (v ≡ 0) ⊎ (v ≡ 2_147_483_648)

pub record Shown (log ts : List ℕ) : Type 0 where
  -- there is an answer, and no two
  pub one : (a : ℕ × ℕ × ℕ) × Judged log ts a
  pub alone : (a b : ℕ × ℕ × ℕ) → Judged log ts a → Judged log ts b → a ≡ b
  -- "6 is not given here"
  pub no_six : (replayed log).course ≡ stopped OutputTooShort → ⊥
  -- "both": the transcript is the readings, and their negation leaves them as they are
  pub when_both : Judged log ts (0, 3, 0) → (ts ≡ plain log) × Still (edition_in log) (records_of log)
  pub both_when : (replayed log).course ≡ going → ts ≡ plain log → Still (edition_in log) (records_of log) → Judged log ts (0, 3, 0)
