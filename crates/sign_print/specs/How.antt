-- How the code gets there: a stretch's line as a form that is filled in by numbers, and these from the four numbers of its entry. No public
-- promise rests on this.
-- Assumes nothing.
use Rattle.std.specs.Prelude.{◌≡◌, ℕ, ◌+◌, ◌-◌, ◌*◌, ◌/◌, ◌%◌, ◌<◌, ◌≤◌, cond, List, [], ◌∷◌, ◌++◌, length, ℤ, pos, negsuc, ◌==◌, nat_lt, unsigned_abs}
use Rattle.decimal.specs.Ascii.{ascii}
use Rattle.form.specs.Form.{form_text}
use Rattle.text.specs.Text.{line}
use Rattle.numbers.specs.Bytes.{le_of}
use Rattle.sign.specs.Sign.{stretches_of}
use Rattle.sign_entry.specs.Entry.{listing}
use Rattle.sign_print.specs.Said.{counted}

-- two's complement
unfoldable pub whole_of : ℕ → ℤ
whole_of n = cond (nat_lt n 9223372036854775808) (pos n) (negsuc (18446744073709551615 - n))

-- ---- a stretch

abbrev pub stretch_form : List ℕ
stretch_form =
    ascii "bank " ++ 35 ∷ ascii " encoder " ++ 35 ∷ ascii ": records " ++ 35 ∷ ascii " to " ++ 35 ∷ ascii ", " ++ 35 ∷ ascii " pin" ++ 126 ∷ ascii ", " ++ 94 ∷ 35 ∷ (ascii " step")
    ++ 126 ∷ ascii ", " ++ 35 ∷ ascii " double change" ++ 126 ∷ ascii ", travel " ++ 94 ∷ 35 ∷ ascii " to " ++ 94 ∷ 35 ∷ []

-- what it is filled in by: bank, encoder, first and last record; pins, steps and double changes, each with its s; the travel
abbrev pub numbers_by : ℕ → ℕ → ℕ → ℕ → ℕ → ℕ → ℕ → ℕ → ℕ → List ℕ
numbers_by bank encoder first last pins steps d least most =
    bank ∷ encoder ∷ first ∷ last ∷ pins ∷ pins ∷ steps ∷ unsigned_abs (whole_of steps) ∷ unsigned_abs (whole_of steps) ∷ d ∷ d
    ∷ least ∷ unsigned_abs (whole_of least) ∷ most ∷ unsigned_abs (whole_of most) ∷ []

abbrev pub numbers_of : ℕ → ℕ → ℕ → ℕ → List ℕ
numbers_of names span steps d =
    numbers_by (names % 256) (names / 256 % 256) (names / 4294967296) (span % 4294967296) (span / 4294967296) steps d
    ((steps + 18446744073709551616 - 2 * d) % 18446744073709551616) ((steps + 2 * d) % 18446744073709551616)

-- "0 open, 1 forward, 2 backward, 3 still"
unfoldable pub numbered_text : ℕ → ℕ → ℕ → List ℕ
numbered_text v size d =
    cond (v == 1) (ascii ": forward") (cond (v == 2) (ascii ": backward") (cond (v == 3) (ascii ": still") (ascii ": open, " ++ counted (2 * d + 1 - size) (ascii " step") ++ ascii " short of a direction")))

unfoldable pub spelt : ℕ → ℕ → ℕ → ℕ → List ℕ
spelt names span steps d = form_text stretch_form (numbers_of names span steps d) ++ line (numbered_text (names / 65536 % 4) (unsigned_abs (whole_of steps)) d)

-- the entry at a place
abbrev pub spelt_at : List ℕ → ℕ → List ℕ
spelt_at s at = spelt (le_of 8 s at) (le_of 8 s (at + 8)) (le_of 8 s (at + 16)) (le_of 8 s (at + 24))

pub record There (s : List ℕ) (at : ℕ) : Type 0 where
  pub within : at + 32 ≤ length s
  pub doubles : le_of 8 s (at + 24) < 4096

-- a log's entries stand in front
pub record Entries (log entries : List ℕ) (n : ℕ) : Type 0 where
  pub few : n < 2048
  pub all : n ≡ length (stretches_of log)
  pub out : List ℕ
  pub listed : entries ≡ listing (stretches_of log) out
