-- What the program prints to `pwm`, `spi`, `pwm-rate` and `spi-rate` with two words. Assumes nothing.
use Rattle.std.specs.Prelude.{◌≡◌, Bool, true, false, ◌&&◌, cond, List, [], ◌∷◌, ℕ, eqb, Option, Some, None, Result, Ok, Err}
use Rattle.decimal.specs.Ascii.{ascii}
use Rattle.decimal.specs.Put.{Put}
use Rattle.rate.specs.declared.Rule.{Rule}
use Rattle.rate.specs.declared.Pair.{Pair}
use Rattle.rate.specs.declared.Ratio.{Ratio}
use Rattle.refused.specs.declared.Refusal.{Refusal}
use Rattle.refused.specs.Number.{number}
use Rattle.rate.specs.Rate.{pwm, spi, rate_of, rated_numbers, Answer}
use Rattle.text.specs.Text.{pair_text, rate_text, refused_text, no_number_text}
use Rattle.rate_print.specs.declared.Question.{Question}
use Rattle.rate_print.specs.declared.Question.TheVariants.{Find, Rate}
use Rattle.rate_print.specs.declared.Clock.{Clock}
use Rattle.rate_print.specs.declared.Clock.TheVariants.{Pwm, Spi}

-- ---- what the first word asks for

unfoldable pub same : List ℕ → List ℕ → Bool
same [] [] = true
same [] (b ∷ t) = false
same (a ∷ s) [] = false
same (a ∷ s) (b ∷ t) = eqb a b && same s t

-- "pwm", "spi", "pwm-rate" and "spi-rate"
unfoldable pub question_of : List ℕ → Option Question
question_of word =
    cond (same word (ascii "pwm")) (Some (Find Pwm))
    (cond (same word (ascii "spi")) (Some (Find Spi))
    (cond (same word (ascii "pwm-rate")) (Some (Rate Pwm))
    (cond (same word (ascii "spi-rate")) (Some (Rate Spi)) None)))

abbrev pub rule_of : Clock → Rule
rule_of Pwm = pwm 1_000
rule_of Spi = spi 1_000

-- ---- the answers; what is no number is said to be none, as RATE, TOL, CHOICE or X

abbrev pub found_text : Result Pair Refusal → List ℕ
found_text (Ok p) = pair_text p.choice p.x p.period
found_text (Err k) = refused_text (number k)

abbrev pub rated_text : Result Ratio Refusal → List ℕ
rated_text (Ok r) = rate_text r.clock r.period
rated_text (Err k) = refused_text (number k)

abbrev pub PairSaid : Rule → Option ℕ → Option ℕ → List ℕ → List ℕ → ℕ → Type 0
PairSaid u None b out out' n = Put out 0 (no_number_text (ascii "RATE")) out' n
PairSaid u (Some f) None out out' n = Put out 0 (no_number_text (ascii "TOL")) out' n
PairSaid u (Some f) (Some tol) out out' n = (r : Result Pair Refusal) × Answer u f tol r × Put out 0 (found_text r) out' n

abbrev pub RateSaid : Rule → Option ℕ → Option ℕ → List ℕ → List ℕ → ℕ → Type 0
RateSaid u None b out out' n = Put out 0 (no_number_text (ascii "CHOICE")) out' n
RateSaid u (Some c) None out out' n = Put out 0 (no_number_text (ascii "X")) out' n
RateSaid u (Some c) (Some x) out out' n = (r : Result Ratio Refusal) × (rated_numbers r ≡ rate_of u c x) × Put out 0 (rated_text r) out' n

-- to any other word nothing
abbrev pub AnswerSaid : Option Question → Option ℕ → Option ℕ → List ℕ → List ℕ → ℕ → Type 0
AnswerSaid (Some (Find s)) a b out out' n = PairSaid (rule_of s) a b out out' n
AnswerSaid (Some (Rate s)) a b out out' n = RateSaid (rule_of s) a b out out' n
AnswerSaid None a b out out' n = Put out 0 [] out' n
