-- How the code gets there: the records of a log that replays, one behind the other. No public promise rests on this.
-- Assumes nothing.
use Rattle.std.specs.Prelude.{ℕ, ◌/◌, ◌^◌, ◌≤◌, List, map, length}
use Rattle.fold.specs.Device.{records}
use Rattle.vcd.specs.declared.Step.{Step}
use Rattle.vcd.specs.Lines.{text_of}
use Rattle.vcd.specs.Dump.{dump_of, Good}
use Rattle.dump.specs.Dump.{seen_of}

-- 16 bytes each
abbrev pub steps_in : List ℕ → List Step
steps_in bytes = map seen_of (records 16 (length bytes / 16) bytes)

pub record Ready (bytes : List ℕ) : Type 0 where
  pub few : length bytes / 16 ≤ 2047
  pub good : Good (2 ^ 48) 0 (steps_in bytes)

abbrev pub text_in : List ℕ → List ℕ
text_in bytes = text_of (dump_of (steps_in bytes))
