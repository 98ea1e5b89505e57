-- What the program prints to `judge`: the verdict on a log and a transcript. Assumes nothing.
use Rattle.std.specs.Prelude.{List, ℕ, Result, Ok, Err}
use Rattle.decimal.specs.Put.{Put}
use Rattle.decimal.specs.Ascii.{ascii}
use Rattle.text.specs.Text.{line, refused_text, different_text}
use Rattle.refused.specs.declared.Refusal.{Refusal}
use Rattle.refused.specs.Number.{number}
use Rattle.transcript.specs.declared.Verdict.{Verdict}
use Rattle.transcript.specs.declared.Verdict.TheVariants.{Same, Negated, Both, Different}
use Rattle.transcript.specs.Judge.{Answer}

abbrev pub verdict_text : Result Verdict Refusal → List ℕ
verdict_text (Ok Same) = line (ascii "same")
verdict_text (Ok Negated) = line (ascii "negated")
verdict_text (Ok Both) = line (ascii "both")
verdict_text (Ok (Different i)) = different_text i
verdict_text (Err k) = refused_text (number k)

-- the text is that of an answer to the log and the transcript ts
abbrev pub VerdictSaid : List ℕ → List ℕ → List ℕ → List ℕ → ℕ → Type 0
VerdictSaid log ts out out' n = (r : Result Verdict Refusal) × Answer log ts r × Put out 0 (verdict_text r) out' n
