-- `rivandoze::logs::rvz_replay` meets its contract. Assumes nothing.
use Rattle.fold.specs.Output.{stop_of}
use Rattle.rivandoze.proofs.Calls.{replay_small}
use Rattle.rivandoze.proofs.logs.rvz_replay.Goals as goal

pub word-requires : goal.word-requires
word-requires c = search replay_small

pub returns-clause-word : goal.returns-clause-word
unfolding stop_of
returns-clause-word c = rw c.replay-s.ensures.value at c.word.ensures
