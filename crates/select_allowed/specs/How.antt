-- How the code gets there: all pins at once, in a number with one place for each pin.
-- Assumes nothing.
use Rattle.std.specs.Prelude.{ℕ, zero, suc, ◌+◌, ◌*◌, ◌/◌, ◌%◌, Bool, eqb}
use Rattle.bits.specs.Bits.{num}

-- the first n pins with 1 for each whose field passes the test, 0 for the others; two bits per pin, as in a SELECT
unfoldable pub marks : (ℕ → Bool) → ℕ → ℕ → ℕ
marks f zero select = 0
marks f (suc n) select = marks f n (select / 4) * 4 + num (f (select % 4))

abbrev pub threes : ℕ → ℕ
threes = marks (λ field. eqb field 3) 20

abbrev pub twos : ℕ → ℕ
twos = marks (λ field. eqb field 2) 20

abbrev pub ones : ℕ → ℕ
ones = marks (λ field. eqb field 1) 20
