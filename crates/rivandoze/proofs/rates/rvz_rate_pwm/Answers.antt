-- `rivandoze::rates::rvz_rate_pwm` meets its contract. Assumes nothing.
use Rattle.words.proofs.RateWords.{narrow_pwm, period_fits, clock_fits, rated_word}
use Rattle.rivandoze.proofs.rates.rvz_rate_pwm.Goals as goal

pub rate_word-requires : goal.rate_word-requires
rate_word-requires c = (search (period_fits, narrow_pwm), search (clock_fits, narrow_pwm))

pub returns : goal.returns
returns c = search (rated_word, narrow_pwm)
