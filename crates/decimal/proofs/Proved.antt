-- The fact of specs/Facts.antt. Assumes nothing.
use mathlib.Core.Path.{◌≡◌, refl, ◌∙◌}
use mathlib.Core.Bool.{true}
use mathlib.Core.List.{List, [], ◌∷◌, foldl}
use Prim.Native.Nat.{ℕ, zero, suc, ◌+◌, ◌-◌, ◌*◌, ◌<◌, ◌≤◌}
use native.Mathlib.Omega.{arith}
use lib.Dec.{leb}
use lib.ListN.{length, get_or}
use borrow.Author.Tests.{leb-true}
use Rattle.laws.proofs.Truth.{both_true}
use Rattle.decimal.specs.Decimal.{is_digit, are_digits, value_from}
use Rattle.decimal.specs.Digits.{digits_of}
use Rattle.decimal.specs.Facts.{AllWritten}
use Rattle.decimal.proofs.Back.{value_back, are_digits_lem, some_digits, first_digit, twenty_digits}

value : (v : ℕ) (s : List ℕ) → foldl (λ v b. 10 * v + (b - 48)) v s ≡ value_from v s
value v [] = refl
value v (b ∷ s) = value (10 * v + (b - 48)) s

each : (s : List ℕ) → are_digits s ≡ true → (i : ℕ) → i < length s → (48 ≤ get_or s i 0) × (get_or s i 0 ≤ 57)
each [] e i h = absurd (omega arith)
each (b ∷ s) e zero h = let d = both_true (leb 48 b) (leb b 57) (both_true (is_digit b) (are_digits s) e).0 in (leb-true 48 b d.0, leb-true b 57 d.1)
each (b ∷ s) e (suc i) h = each s (both_true (is_digit b) (are_digits s) e).1 i (omega arith)

pub all_written : AllWritten
all_written n = (value 0 (digits_of n) ∙ value_back n, each (digits_of n) (are_digits_lem n), some_digits n, first_digit n, twenty_digits n)
