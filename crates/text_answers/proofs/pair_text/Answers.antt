use Rattle.text.proofs.Puts.{puts_then, puts_end}
use Rattle.text_answers.proofs.pair_text.Goals as goal

pub returns : goal.returns
returns c = let h = puts_then _ _ _ _ _ c.count.ensures c.pair.ensures in search puts_end
