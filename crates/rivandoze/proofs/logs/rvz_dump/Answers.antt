-- `rivandoze::logs::rvz_dump` meets its contract. Assumes nothing.
use Rattle.rivandoze.proofs.Calls.{dump_small}
use Rattle.rivandoze.proofs.logs.rvz_dump.Goals as goal

pub made_word-requires : goal.made_word-requires
made_word-requires c = search dump_small
