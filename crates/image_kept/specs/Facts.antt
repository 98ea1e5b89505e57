-- What is shown of the bytes that a replay writes.
-- Assumes nothing.
use Rattle.std.specs.Prelude.{◌≡◌, List, ℕ, ◌*◌, ◌<◌, length, get_or}
use Rattle.numbers.specs.Bytes.{le_of}
use Rattle.walk.specs.Turn.{written}
use Rattle.replay.specs.Replay.{replay_of}

-- "Each read writes 8 bytes into the lent output, in log order": they say its reading, whole
abbrev pub EightBytes : Type 0
EightBytes = (log out : List ℕ) (i : ℕ) → let x = replay_of log (length out) in i < length x.readings → le_of 8 (written x out) (8 * i) ≡ get_or x.readings i 0
