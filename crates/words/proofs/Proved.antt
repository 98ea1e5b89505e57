-- The number of each answer is the only one. Assumes nothing.
use mathlib.Core.Path.{◌≡◌}
use Prim.Native.Nat.{ℕ}
use native.Mathlib.Omega.{arith}
use Rattle.rate.specs.Rate.{pwm, spi}
use Rattle.rate.proofs.Answers.{fair_pwm, fair_spi}
use Rattle.words.specs.Word.{Word, WordsSettled}
use Rattle.words.proofs.JudgeWord.{judge_settled}
use Rattle.words.proofs.RateWords.{found_settled, rated_settled}

word_settled : (k n v w : ℕ) → Word k n v → Word k n w → v ≡ w
word_settled k n v w a b = omega (arith, a.refusal, a.above, b.refusal, b.above)

pub words_settled : WordsSettled
words_settled = record {
  word = word_settled;
  judged = judge_settled;
  found_pwm = found_settled (pwm 1_000) fair_pwm;
  found_spi = found_settled (spi 1_000) fair_spi;
  rated = rated_settled;
}
