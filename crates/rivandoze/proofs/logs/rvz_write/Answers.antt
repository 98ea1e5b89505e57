-- `rivandoze::logs::rvz_write` meets its contract. Assumes nothing.
use Rattle.rivandoze.proofs.Calls.{write_small}
use Rattle.rivandoze.proofs.logs.rvz_write.Goals as goal

pub word-requires : goal.word-requires
word-requires c = write_small _ _ _ _ _ _ c.write.ensures.value c.in-Ok.is
