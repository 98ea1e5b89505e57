-- What the program prints, as bytes. Assumes nothing.
use Rattle.std.specs.Prelude.{List, [], ◌∷◌, ◌++◌, ℕ, zero, suc, ◌-◌, ◌/◌, ◌^◌, length, drop}
use Rattle.decimal.specs.Ascii.{ascii}
use Rattle.decimal.specs.Digits.{digits_of}
use Rattle.numbers.specs.Bytes.{le_of}

-- a line ends in a newline
abbrev pub line : List ℕ → List ℕ
line s = s ++ 10 ∷ []

-- ---- the replay: "prints each reading in decimal on its own line, then `applied K refused R`"

unfoldable pub lines_of : List ℕ → List ℕ
lines_of [] = []
lines_of (v ∷ vs) = line (digits_of v) ++ lines_of vs

abbrev pub stop_text : ℕ → ℕ → List ℕ
stop_text k r = line (ascii "applied " ++ digits_of k ++ ascii " refused " ++ digits_of r)

abbrev pub text_of : List ℕ → ℕ → ℕ → List ℕ
text_of vs k r = lines_of vs ++ stop_text k r

-- the readings in the output's bytes, 8 bytes each: the first n, and all of them
unfoldable pub numbers_in : ℕ → List ℕ → List ℕ
numbers_in zero s = []
numbers_in (suc n) s = le_of 8 s 0 ∷ numbers_in n (drop 8 s)

abbrev pub readings_in : List ℕ → List ℕ
readings_in s = numbers_in (length s / 8) s

-- ---- the rates: `choice C x X period P`, `40000000 P`, `refused R`, and what is said to a word that is no number

abbrev pub pair_text : ℕ → ℕ → ℕ → List ℕ
pair_text c x p = ascii "choice " ++ digits_of c ++ line (ascii " x " ++ digits_of x ++ ascii " period " ++ digits_of p)

abbrev pub rate_text : ℕ → ℕ → List ℕ
rate_text clock period = line (digits_of clock ++ ascii " " ++ digits_of period)

abbrev pub refused_text : ℕ → List ℕ
refused_text r = line (ascii "refused " ++ digits_of r)

-- `refused R record I`
abbrev pub refused_record_text : ℕ → ℕ → List ℕ
refused_record_text r i = line (ascii "refused " ++ digits_of r ++ ascii " record " ++ digits_of i)

abbrev pub no_number_text : List ℕ → List ℕ
no_number_text name = name ++ line (ascii " is no decimal number from 0 to " ++ digits_of (2 ^ 64 - 1))

-- ---- a verdict: `different I`; the others are one word

abbrev pub different_text : ℕ → List ℕ
different_text i = line (ascii "different " ++ digits_of i)
