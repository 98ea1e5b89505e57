-- What the program prints of a log. Assumes nothing.
use Rattle.std.specs.Prelude.{List, ℕ}
use Rattle.refused.specs.Number.{number_of}
use Rattle.fold.specs.Output.{refusal_of}
use Rattle.replay.specs.Replay.{replayed}
use Rattle.text.specs.Text.{text_of}

-- with room for each of its readings
unfoldable pub said_of : List ℕ → List ℕ
said_of log = let x = replayed log in text_of x.readings x.applied (number_of (refusal_of x.course))
