-- Paper 02, m, of the two calls: what `dump` writes, `dump_read` reads, and it gives back the pins of the log's records.
-- Assumes nothing.
use Rattle.std.specs.Prelude.{ℕ, ◌+◌, ◌*◌, ◌≤◌, ◌≡◌, List, Ok, length, take, drop}
use Rattle.fold.specs.Run.{going}
use Rattle.edition.specs.declared.Edition.{Edition}
use Rattle.wire.specs.Decode.{bank_of, decode_of}
use Rattle.records.specs.declared.Record.TheVariants.{Pins, Ticks}
use Rattle.vcd.specs.declared.Step.TheVariants.{Wait, Pins as Seen}
use Rattle.vcd.specs.Entries.{entries_in}
use Rattle.vcd.specs.Reader.{Reads}
use Rattle.vcd.specs.Facts.{Shown}
use Rattle.replay.specs.Replay.{replayed}
use Rattle.made.specs.Made.{made_of, output_of, size_in}
use Rattle.dump.specs.Dump.{seen_of, steps_of, dump_text}

pub record Dumps : Type 0 where
  -- of a log that replays: "A reader of just this subset must give back the pins as they stand after all changes at each time at which something
  -- changed"; times rise, no change repeats, RVZ_DUMP_BYTES are enough
  pub shown : (log : List ℕ) → (replayed log).course ≡ going → Shown (steps_of log)
  -- in the lent output: the text in the first bytes, the length answered, "bytes beyond as they were"; and the reader on these bytes
  pub written : (log out : List ℕ) → (replayed log).course ≡ going → length (dump_text log) ≤ length out
      → let n = size_in (made_of dump_text log (length out)) in let after = output_of dump_text log out in
      (n ≡ length (dump_text log)) × (take n after ≡ dump_text log) × (drop n after ≡ drop n out) × Reads (take n after) (entries_in (steps_of log))
  -- how the dump sees a record that wire decodes
  pub pins : (o : Edition) (r : List ℕ) (i v : ℕ) → decode_of o r ≡ Ok (Pins i v) → seen_of r ≡ Seen (10 * bank_of r + i) v
  pub ticks : (o : Edition) (r : List ℕ) (t : ℕ) → decode_of o r ≡ Ok (Ticks t) → seen_of r ≡ Wait t
