use Rattle.decimal.proofs.Puts.{put_full}
use Rattle.text.proofs.Lines.{word_cut}
use Rattle.text.proofs.put_word.Goals as goal

pub returns-then-out-at : goal.returns-then-out-at
returns-then-out-at c = search put_full

pub returns : goal.returns
returns c = search word_cut
