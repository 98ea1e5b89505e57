-- Readings out of their bytes, put one after the other. Assumes nothing.
use mathlib.Core.Path.{◌≡◌, refl}
use mathlib.Core.List.{List, [], ◌++◌}
use Prim.Native.Nat.{ℕ, zero, suc, ◌+◌, ◌/◌, ◌≤◌, ◌<◌}
use native.Mathlib.Omega.{arith}
use lib.ListN.{length, length-append, get_or-append}
use lib.Seq.{drop_at}
use Rattle.decimal.specs.Digits.{digits_of}
use Rattle.numbers.specs.Bytes.{le_of}
use Rattle.text.specs.declared.Text.{Text}
use Rattle.text.specs.Puts.{Puts}
use Rattle.text.proofs.Puts.{puts_nothing, puts_then}
use Rattle.text.specs.Text.{line, stop_text, text_of, lines_of, numbers_in, readings_in}

-- bytes that follow change no number
le_front : (n : ℕ) (s t : List ℕ) (at : ℕ) → at + n ≤ length s → le_of n (s ++ t) at ≡ le_of n s at
unfolding le_of
le_front zero s t at h = refl
le_front (suc n) s t at h = rw (get_or-append s t 0 at (omega arith), le_front n s t (suc at) (omega arith))

-- less than eight bytes are no reading; eight are one, before those that follow
readings_few : (s : List ℕ) → length s < 8 → lines_of (readings_in s) ≡ []
unfolding lines_of numbers_in
readings_few s h = let e : length s / 8 ≡ 0 = omega arith in rw e

readings_one : (s t : List ℕ) → length s ≡ 8 → lines_of (readings_in (s ++ t)) ≡ line (digits_of (le_of 8 s 0)) ++ lines_of (readings_in t)
unfolding lines_of numbers_in
readings_one s t h =
    let e : length (s ++ t) / 8 ≡ suc (length t / 8) = omega (arith, length-append s t) in
    rw (e, le_front 8 s t 0 (omega arith), drop_at s t 8 h)

-- the readings from some place on, of which it is known that what puts them puts all
module _ (out mid : Text) (all rest : List ℕ) (x : (o : Text) → Puts mid o (lines_of (readings_in rest)) → Puts out o (lines_of (readings_in all))) where
  pub readings_next : (s t : List ℕ) (mid' : Text) (v : ℕ) → rest ≡ s ++ t → length s ≡ 8 → v ≡ le_of 8 s 0 → Puts mid mid' (line (digits_of v))
      → (o : Text) → Puts mid' o (lines_of (readings_in t)) → Puts out o (lines_of (readings_in all))
  readings_next s t mid' v p q r y o z =
      let first = rw r at y in
      x o (rw (p, readings_one s t q) (puts_then mid mid' o (line (digits_of (le_of 8 s 0))) (lines_of (readings_in t)) first z))

  pub readings_end : length rest < 8 → Puts out mid (lines_of (readings_in all))
  readings_end h = x mid (rw (readings_few rest h) (puts_nothing mid))

-- the readings, and how it ended
pub told : (a b c : Text) (readings : List ℕ) (k r : ℕ) → Puts a b (lines_of (readings_in readings)) → Puts b c (stop_text k r) → Puts a c (text_of (readings_in readings) k r)
told a b c readings k r x y = puts_then a b c _ _ x y
