-- `rivandoze::logs::rvz_shrink` meets its contract. Assumes nothing.
use Rattle.rivandoze.proofs.Calls.{shrink_small}
use Rattle.rivandoze.proofs.logs.rvz_shrink.Goals as goal

pub made_word-requires : goal.made_word-requires
made_word-requires c = search shrink_small
