-- `rivandoze::rates::rvz_find_spi` meets its contract. Assumes nothing.
use Rattle.words.proofs.RateWords.{parts_fit}
use Rattle.rivandoze.proofs.rates.rvz_find_spi.Goals as goal

pub find_word-requires : goal.find_word-requires
find_word-requires c = (search parts_fit, search parts_fit, search parts_fit)
