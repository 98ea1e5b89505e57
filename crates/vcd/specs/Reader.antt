-- The texts that the reader takes, and what it reads in them: docs/WAVEFORM.md, "The reader". Assumes nothing.
use Rattle.std.specs.Prelude.{◌≡◌, false, List, ◌++◌, ℕ, ◌≤◌, ◌^◌, length, replicate}
use Rattle.vcd.specs.declared.Step.{Step}
use Rattle.vcd.specs.Lines.{text_of}
use Rattle.vcd.specs.Dump.{start_of, header_of, body_from, Good}
use Rattle.vcd.specs.Entries.{Entry, entries_from}

-- the text is the dump of some steps, and xs are the entries of these
pub record Reads (text : List ℕ) (xs : List Entry) : Type 0 where
  pub steps : List Step
  -- "each time .. below 2^64"; "it does not ask whether 2,047 records would do"
  pub good : Good (2 ^ 64) 0 steps
  -- "nor that a declared encoder has its `x` lines or any change": encoders that have `x` lines, and more that are declared
  pub unknown : List Step
  pub more : List Step
  pub pins : List ℕ
  pub declared : pins ≡ start_of (more ++ unknown ++ steps)
  pub dump : text ≡ text_of (header_of pins (start_of unknown) ++ body_from false 0 pins steps)
  pub entries : xs ≡ entries_from 0 pins (replicate 20 0) steps
  -- "no more than 25,207 bytes"
  pub short : length text ≤ 25207

-- a text is read in one way
abbrev pub OneReading : Type 0
OneReading = (text : List ℕ) (xs ys : List Entry) → Reads text xs → Reads text ys → xs ≡ ys
