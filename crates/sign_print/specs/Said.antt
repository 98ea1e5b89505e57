-- What `rvz sign` prints: "a line for each stretch in words, then `applied K refused R`", as in
--   bank 0 encoder 4: records 3 to 20, 15 pins, +12 steps, 1 double change, travel +10 to +14: forward
--   bank 1 encoder 0: records 5 to 9, 4 pins, -1 step, 3 double changes, travel -7 to +5: open, 6 steps short of a direction
-- Assumes nothing.
use Rattle.std.specs.Prelude.{ℕ, zero, suc, ◌+◌, ◌-◌, ◌*◌, cond, List, [], ◌∷◌, ◌++◌, map, ℤ, pos, negsuc, ◌+ℤ◌, ◌-ℤ◌, ◌==◌, unsigned_abs}
use mathlib.Core.List.{flatten}
use Rattle.decimal.specs.Ascii.{ascii}
use Rattle.decimal.specs.Digits.{digits_of}
use Rattle.refused.specs.Number.{number_of}
use Rattle.fold.specs.Output.{refusal_of}
use Rattle.replay.specs.Replay.{replayed}
use Rattle.shaft.specs.Shaft.{forward, backward, still}
use Rattle.text.specs.Text.{line, stop_text}
use Rattle.sign.specs.Sign.{stretches_of}
use Rattle.sign_entry.specs.Entry.{Entry, Verdict, settled, unsettled, verdict_of}

-- `1 pin`, `2 pins`
abbrev pub plural : List ℕ → ℕ → List ℕ
plural word n = word ++ cond (n == 1) [] (ascii "s")

abbrev pub counted : ℕ → List ℕ → List ℕ
counted n word = digits_of n ++ plural word n

-- a number with its sign, and 0 without one
unfoldable pub signed : ℤ → List ℕ
signed (pos zero) = ascii "0"
signed (pos (suc n)) = 43 ∷ digits_of (suc n)
signed (negsuc n) = 45 ∷ digits_of (suc n)

-- the steps S settle a direction where they exceed 2d in size: by how many they are short of that
abbrev pub verdict_text : Verdict → ℕ → ℕ → List ℕ
verdict_text (settled forward) size d = ascii ": forward"
verdict_text (settled backward) size d = ascii ": backward"
verdict_text (settled still) size d = ascii ": still"
verdict_text unsettled size d = ascii ": open, " ++ counted (2 * d + 1 - size) (ascii " step") ++ ascii " short of a direction"

-- where a stretch stands; its pins records, its steps and its double changes; "travel as a range: S - 2d to S + 2d"
unfoldable pub place_text : ℕ → ℕ → ℕ → ℕ → List ℕ
place_text bank encoder first last = ascii "bank " ++ digits_of bank ++ ascii " encoder " ++ digits_of encoder ++ ascii ": records " ++ digits_of first ++ ascii " to " ++ digits_of last

abbrev pub steps_text : ℤ → List ℕ
steps_text s = ascii ", " ++ signed s ++ plural (ascii " step") (unsigned_abs s)

unfoldable pub sums_text : ℕ → ℤ → ℕ → List ℕ
sums_text n s d = ascii ", " ++ counted n (ascii " pin") ++ steps_text s ++ ascii ", " ++ counted d (ascii " double change")

unfoldable pub travel_text : ℤ → ℕ → List ℕ
travel_text s d = ascii ", travel " ++ signed (s -ℤ pos (2 * d)) ++ ascii " to " ++ signed (s +ℤ pos (2 * d))

unfoldable pub stretch_text : Entry → List ℕ
stretch_text e = let s = e.steps in let d = e.doubles in
    line (place_text e.bank e.encoder e.first e.last ++ sums_text e.number s d ++ travel_text s d ++ verdict_text (verdict_of s d) (unsigned_abs s) d)

-- of a log: K and R as its replay has them, with room for each reading
unfoldable pub stretches_text : List ℕ → List ℕ
stretches_text log = flatten (map stretch_text (stretches_of log))

unfoldable pub end_text : List ℕ → List ℕ
end_text log = let x = replayed log in stop_text x.applied (number_of (refusal_of x.course))

abbrev pub sign_text : List ℕ → List ℕ
sign_text log = stretches_text log ++ end_text log
