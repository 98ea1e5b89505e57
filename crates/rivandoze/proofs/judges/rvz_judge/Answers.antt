-- `rivandoze::judges::rvz_judge` meets its contract. Assumes nothing.
use Rattle.words.proofs.JudgeWord.{index_small}
use Rattle.rivandoze.proofs.judges.rvz_judge.Goals as goal

pub verdict_word-requires : goal.verdict_word-requires
verdict_word-requires c = search index_small
