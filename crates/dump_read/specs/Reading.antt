-- What is answered to a text and left in the output: docs/WAVEFORM.md, "The reader". Assumes nothing.
use Rattle.std.specs.Prelude.{◌≡◌, ℕ, ◌*◌, ◌≤◌, ◌<◌, length, Result, Ok, Err}
use mathlib.Core.List.{List, map, flatten}
use Rattle.fold.specs.Output.{over}
use Rattle.refused.specs.declared.Refusal.{Refusal}
use Rattle.vcd.specs.Entries.{Entry, entry_bytes}
use Rattle.vcd.specs.Reader.{Reads}

-- how many entries
abbrev pub count_of : Result ℕ Refusal → ℕ
count_of (Ok n) = n
count_of (Err r) = 0

pub record Answer (text out : List ℕ) (refused count : ℕ) (out' : List ℕ) : Type 0 where
  -- "bits 8 up: how many entries; 16 bytes each"
  pub read : (xs : List Entry) → Reads text xs → 16 * length xs ≤ length out → (refused ≡ 0) × (count ≡ length xs) × (out' ≡ over (flatten (map entry_bytes xs)) out)
  -- "6 if the entries do not fit; nothing is written"
  pub cramped : (xs : List Entry) → Reads text xs → length out < 16 * length xs → (refused ≡ 6) × (count ≡ 0) × (out' ≡ out)
  -- "Any other text is refusal 20"
  pub other : ((xs : List Entry) → Reads text xs → ⊥) → (refused ≡ 20) × (count ≡ 0) × (out' ≡ out)

-- "Any two outcomes allowed by a contract are proved the same"
abbrev pub Settled : Type 0
Settled = (text out o p : List ℕ) (j k m n : ℕ) → Answer text out j m o → Answer text out k n p → (j ≡ k) × (m ≡ n) × (o ≡ p)
