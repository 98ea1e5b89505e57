-- A number in decimal digits: no leading zero, and 0 is one digit. Assumes nothing.
use Rattle.std.specs.Prelude.{cond, List, [], ◌∷◌, ◌++◌, ℕ, zero, suc, ◌+◌, ◌/◌, ◌%◌, ltb}

-- the digits of a number that has at most 1 + k of them
unfoldable pub digits_within : ℕ → ℕ → List ℕ
digits_within zero n = (48 + n) ∷ []
digits_within (suc k) n = cond (ltb n 10) ((48 + n) ∷ []) (digits_within k (n / 10) ++ (48 + n % 10) ∷ [])

-- a number has at most 1 + n digits
unfoldable pub digits_of : ℕ → List ℕ
digits_of n = digits_within n n
