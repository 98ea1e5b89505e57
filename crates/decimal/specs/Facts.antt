-- What is shown of a number's digits. Assumes nothing.
use Rattle.std.specs.Prelude.{◌≡◌, ℕ, ◌+◌, ◌-◌, ◌*◌, ◌<◌, ◌≤◌, ◌^◌, length, get_or}
use mathlib.Core.List.{foldl}
use Rattle.decimal.specs.Digits.{digits_of}

-- reading them gives the number again: the bytes of the digits 0 to 9 are 48 to 57; there is one, and the first is no 0 but that of 0 itself; below
-- 2^64 they are at most 20
abbrev pub AllWritten : Type 0
AllWritten = (n : ℕ) → let s = digits_of n in
    (foldl (λ v b. 10 * v + (b - 48)) 0 s ≡ n) × ((i : ℕ) → i < length s → (48 ≤ get_or s i 0) × (get_or s i 0 ≤ 57))
    × (0 < length s) × (0 < n → 48 < get_or s 0 0) × (n < 2 ^ 64 → length s ≤ 20)
