-- Bytes put one after the other, and a number's digits. Assumes nothing.
use mathlib.Core.Path.{◌≡◌, refl, sym, ap, ◌∙◌}
use mathlib.Core.List.{List, [], ◌∷◌, ◌++◌}
use Prim.Native.Nat.{ℕ, suc, ◌+◌, ◌-◌, ◌/◌, ◌%◌, ◌≤◌, ◌<◌, min}
use native.Mathlib.Nat.{zero-add, add-zero, add-suc, suc-add}
use native.Mathlib.Omega.{arith, min_cases}
use lib.ListN.{length, set, length-append, take, drop}
use lib.Seq.{sets, length-sets, set_out, sets-eq, take_at, drop_at}
use Rattle.decimal.specs.Digits.{digits_of}
use Rattle.decimal.specs.Put.{Put}
use Rattle.decimal.proofs.Back.{digits_small, digits_more}

sets_append : (s t out : List ℕ) (at : ℕ) → sets (sets out at s) (at + length s) t ≡ sets out at (s ++ t)
sets_append [] t out at = rw add-zero
sets_append (a ∷ s) t out at = rw (add-suc, ← suc-add at (length s)) (sets_append s t (set out at a) (suc at))

-- there is no room
sets_out : (s out : List ℕ) (at : ℕ) → length out ≤ at → sets out at s ≡ out
sets_out [] out at h = refl
sets_out (a ∷ s) out at h = rw (set_out out at a h) (sets_out s out (suc at) (omega arith))

-- s and then t, from the place after what of s had room
sets_then : (s t out : List ℕ) (at : ℕ) → sets (sets out at s) (at + min (length s) (length out - at)) t ≡ sets out at (s ++ t)
sets_then s t out at =
    min_cases (length s) (length out - at) _ (λ h e. rw e (sets_append s t out at)) λ h e.
    let l = length-sets out at s in
    rw e (sets_out t (sets out at s) (at + (length out - at)) (omega arith) ∙ sym (sets_out t (sets out at s) (at + length s) (omega arith)) ∙ sets_append s t out at)

pub put_nothing : (out : List ℕ) (at : ℕ) → Put out at [] out at
put_nothing out at = record { bytes = refl; place = omega arith }

pub put_then : (a b c s t : List ℕ) (p q r : ℕ) → Put a p s b q → Put b q t c r → Put a p (s ++ t) c r
put_then a b c s t p q r x y = record {
  bytes = y.bytes ∙ rw (x.bytes, x.place) (sets_then s t a p);
  place = omega (arith, x.place, y.place, length-append s t, ap length x.bytes, length-sets a p s);
}

pub put_long : (a b s : List ℕ) (p q : ℕ) → Put a p s b q → length b ≡ length a
put_long a b s p q x = ap length x.bytes ∙ length-sets a p s

-- where there is no room
pub put_full : (out s : List ℕ) (at : ℕ) → length out ≤ at → Put out at s out at
put_full out s at h = record { bytes = sym (sets_out s out at h); place = omega arith }

-- ---- put_byte where there is room

pub put_one : (out : List ℕ) (at b : ℕ) → at < length out → Put out at (b ∷ []) (set out at b) (at + 1)
put_one out at b h = record { bytes = refl; place = omega arith }

-- ---- put: the one digit, and the last after the others

pub put_digit : (n : ℕ) (out out' : List ℕ) (at r b : ℕ) → n < 10 → b ≡ 48 + n → Put out at (b ∷ []) out' r → Put out at (digits_of n) out' r
put_digit n out out' at r b h e x = rw (digits_small n h, ← e) x

pub put_more : (n : ℕ) (out mid out' : List ℕ) (at end r b : ℕ) → 10 ≤ n → b ≡ 48 + n % 10 → Put out at (digits_of (n / 10)) mid end
    → Put mid end (b ∷ []) out' r → Put out at (digits_of n) out' r
put_more n out mid out' at end r b h e x y = rw (digits_more n h, ← e) (put_then out mid out' (digits_of (n / 10)) (b ∷ []) at end r x y)

-- where there is room, what is put at the front stands there whole, and what was behind it stays
pub put_whole : (out s out' : List ℕ) (n : ℕ) → Put out 0 s out' n → length s ≤ length out
    → (n ≡ length s) × (take n out' ≡ s) × (drop n out' ≡ drop n out)
put_whole out s out' n x h =
    let e : n ≡ length s = omega (arith, x.place) in
    let b = x.bytes ∙ sets-eq s out 0 (omega arith) in
    (e, rw b (take_at s (drop (0 + length s) out) n (sym e)), rw b (rw (drop_at s (drop (0 + length s) out) n (sym e), zero-add, e)))
