-- A form: a text with numbers in its places, as bytes. # (35) is the next number in decimal, ^ (94) the sign of the next one, and ~ (126) an s
-- unless the next one is 1; any other byte is itself. A number that is not there is 0.
-- Assumes nothing.
use Rattle.std.specs.Prelude.{cond, ◌||◌, List, [], ◌∷◌, ◌++◌, ℕ, eqb, ltb, get_or, drop}
use Rattle.bits.specs.Bits.{num}
use Rattle.decimal.specs.Digits.{digits_of}

-- of a two's complement number of 64 bits; 0 has none
unfoldable pub sign_of : ℕ → List ℕ
sign_of n = cond (eqb n 0) [] (cond (ltb n 9223372036854775808) (43 ∷ []) (45 ∷ []))

abbrev pub plural_of : ℕ → List ℕ
plural_of n = cond (eqb n 1) [] (115 ∷ [])

-- what a byte of a form puts, n being the next number, and how many numbers it takes
abbrev pub part_of : ℕ → ℕ → List ℕ
part_of b n = cond (eqb b 35) (digits_of n) (cond (eqb b 94) (sign_of n) (cond (eqb b 126) (plural_of n) (b ∷ [])))

abbrev pub taken_by : ℕ → ℕ
taken_by b = num (eqb b 35 || (eqb b 94 || eqb b 126))

unfoldable pub form_text : List ℕ → List ℕ → List ℕ
form_text [] ns = []
form_text (b ∷ bs) ns = part_of b (get_or ns 0 0) ++ form_text bs (drop (taken_by b) ns)
