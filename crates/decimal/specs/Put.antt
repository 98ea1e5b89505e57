-- Bytes put one after the other. Assumes nothing.
use Rattle.std.specs.Prelude.{◌≡◌, List, ℕ, ◌+◌, ◌-◌, min, length}
use Rattle.std.proofs.lemmas.List.Edits.{sets}

-- as much of s as has room stands in out from the place at on, and the next place is after it
pub record Put (out : List ℕ) (at : ℕ) (s : List ℕ) (out' : List ℕ) (at' : ℕ) : Type 0 where
  pub bytes : out' ≡ sets out at s
  pub place : at' ≡ at + min (length s) (length out - at)
