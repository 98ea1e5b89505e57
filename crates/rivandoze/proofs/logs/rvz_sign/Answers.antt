-- `rivandoze::logs::rvz_sign` meets its contract. Assumes nothing.
use Rattle.rivandoze.proofs.Calls.{sign_small}
use Rattle.rivandoze.proofs.logs.rvz_sign.Goals as goal

pub word-requires : goal.word-requires
word-requires c = search sign_small
