-- `rivandoze::rates::rvz_rate_spi` meets its contract. Assumes nothing.
use Rattle.words.proofs.RateWords.{narrow_spi, period_fits, clock_fits, rated_word}
use Rattle.rivandoze.proofs.rates.rvz_rate_spi.Goals as goal

pub rate_word-requires : goal.rate_word-requires
rate_word-requires c = (search (period_fits, narrow_spi), search (clock_fits, narrow_spi))

pub returns : goal.returns
returns c = search (rated_word, narrow_spi)
