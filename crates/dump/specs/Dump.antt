-- Paper 02, m: a log's dump. Assumes nothing.
use Rattle.std.specs.Prelude.{ℕ, ◌+◌, ◌*◌, List, map, cond, eqb}
use Rattle.numbers.specs.Bytes.{byte, le_of}
use Rattle.trailer.specs.Trailer.{records_of}
use Rattle.vcd.specs.declared.Step.{Step}
use Rattle.vcd.specs.declared.Step.TheVariants.{Wait, Pins}
use Rattle.vcd.specs.Lines.{text_of}
use Rattle.vcd.specs.Dump.{dump_of}

-- what the 16 bytes of a record say: kind "3 pins" of the channel in byte 2 and the bank in byte 4, "4 ticks"; of no other kind time
-- or pins
unfoldable pub seen_of : List ℕ → Step
seen_of r = cond (eqb (byte r 0) 3) (Pins (10 * byte r 4 + byte r 2) (le_of 8 r 8)) (Wait (cond (eqb (byte r 0) 4) (le_of 8 r 8) 0))

abbrev pub steps_of : List ℕ → List Step
steps_of log = map seen_of (records_of log)

abbrev pub dump_text : List ℕ → List ℕ
dump_text log = text_of (dump_of (steps_of log))
