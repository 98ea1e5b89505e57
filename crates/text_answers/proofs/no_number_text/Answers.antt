use Rattle.text.proofs.Puts.{puts_then, puts_end}
use Rattle.text_answers.proofs.no_number_text.Goals as goal

pub returns : goal.returns
returns c = let h = puts_then _ _ _ _ _ c.word.ensures c.line.ensures in search puts_end
