-- How long a text can be. Assumes nothing.
use mathlib.Core.List.{List, [], ◌∷◌, ◌++◌}
use Prim.Native.Nat.{ℕ, zero, suc, ◌+◌, ◌*◌, ◌/◌, ◌^◌, ◌≤◌, ◌<◌}
use native.Mathlib.Nat.{pow-succ'}
use native.Mathlib.Omega.{arith}
use lib.ListN.{length, get_or, drop, length-append}
use lib.Seq.{get_or-drop}
use Rattle.decimal.specs.Digits.{digits_of}
use Rattle.decimal.proofs.Back.{twenty_digits}
use Rattle.numbers.specs.Bytes.{le_of}
use Rattle.decimal.specs.Ascii.{ascii}
use Rattle.text.specs.Text.{line, lines_of, text_of, numbers_in, readings_in}

abbrev pub Bytes : List ℕ → Type 0
Bytes s = (i : ℕ) → get_or s i 0 < 256

le_below : (n : ℕ) (s : List ℕ) (at : ℕ) → Bytes s → le_of n s at < 256 ^ n
unfolding le_of
le_below zero s at b = omega arith
le_below (suc n) s at b = rw (pow-succ' 256 n) (omega (arith, b at, le_below n s (suc at) b))

pub lines_below : (n : ℕ) (s : List ℕ) → Bytes s → length (lines_of (numbers_in n s)) ≤ 21 * n
unfolding lines_of numbers_in
lines_below zero s b = omega arith
lines_below (suc n) s b =
    let v = le_of 8 s 0 in
    let rest = lines_of (numbers_in n (drop 8 s)) in
    omega (arith, length-append (line (digits_of v)) rest, length-append (digits_of v) (10 ∷ []), twenty_digits v (le_below 8 s 0 b), lines_below n (drop 8 s) (λ i. rw (get_or-drop 8 s i 0) (b (8 + i))))

-- 21 bytes for each reading, and 58 for the last line
pub text_below : (s : List ℕ) (k r : ℕ) → Bytes s → k < 2 ^ 64 → r < 2 ^ 64 → length (text_of (readings_in s) k r) ≤ 21 * (length s / 8) + 58
text_below s k r b p q =
    let first = ascii "applied " ++ digits_of k in
    let second = first ++ ascii " refused " in
    omega (arith, lines_below (length s / 8) s b, length-append (lines_of (readings_in s)) (line (second ++ digits_of r)), length-append (second ++ digits_of r) (10 ∷ []), length-append second (digits_of r), length-append first (ascii " refused "), twenty_digits k p, twenty_digits r q)
