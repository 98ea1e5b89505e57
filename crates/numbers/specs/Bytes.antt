-- "All numbers are little-endian".
-- Assumes nothing.
use Rattle.std.specs.Prelude.{ℕ, zero, suc, ◌+◌, ◌*◌, ◌/◌, ◌%◌, List, [], ◌∷◌, get_or}

abbrev pub byte : List ℕ → ℕ → ℕ
byte s i = get_or s i 0

-- the number in n bytes from a place on, least byte first
unfoldable pub le_of : ℕ → List ℕ → ℕ → ℕ
le_of zero s at = 0
le_of (suc n) s at = byte s at + 256 * le_of n s (suc at)

-- the n bytes of a number, least byte first
abbrev pub le_bytes : ℕ → ℕ → List ℕ
le_bytes zero v = []
le_bytes (suc n) v = v % 256 ∷ le_bytes n (v / 256)
