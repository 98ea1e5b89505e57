use Rattle.text.proofs.Puts.{puts_then, puts_end}
use Rattle.text_readings.proofs.replay_text.Goals as goal

pub returns : goal.returns
returns c = let h = puts_then _ _ _ _ _ c.put_lines.ensures c.pair.ensures in search puts_end
