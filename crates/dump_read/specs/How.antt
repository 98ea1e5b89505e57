-- How the code gets there: entries stored one after the other as far as there is room, and all of them counted. No public promise rests
-- on this. Assumes nothing.
use Rattle.std.specs.Prelude.{◌≡◌, ℕ, ◌+◌, ◌*◌, length}
use mathlib.Core.List.{List, map, flatten}
use Rattle.std.proofs.lemmas.List.Edits.{sets}
use Rattle.vcd.specs.Entries.{Entry, entry_bytes}

abbrev pub bytes_of : List Entry → List ℕ
bytes_of xs = flatten (map entry_bytes xs)

pub record Stored (out : List ℕ) (count : ℕ) (xs : List Entry) (out' : List ℕ) (count' : ℕ) : Type 0 where
  pub bytes : out' ≡ sets out (16 * count) (bytes_of xs)
  pub number : count' ≡ count + length xs
