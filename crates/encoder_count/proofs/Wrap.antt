-- Laws of the count: the pattern of a sum goes by the pattern of its first summand, so a wrap on the way is forgotten.
-- Assumes nothing.
use Rattle.std.proofs.Common.{◌≡◌, ℕ, zero, suc, ◌+◌, ◌-◌, ◌%◌, ◌<◌, ◌≤◌, Bool, true, false, ltb, ℤ, pos, negsuc, ◌+ℤ◌, sym, refl, ap, ◌∙◌, arith, w32, of_z, ltb-false, ltb-true, le-ltb, lt-ltb}
use lib.IntN.{suc_ℤ, pred_ℤ, +ℤ-suc_ℤ, +ℤ-pred_ℤ, +ℤ_idr}
use lib.Signed.{mag}
use Rattle.encoder_count.specs.Count.{pattern, signed, wrap}

pub pattern_lt : (z : ℤ) → pattern z < 4294967296
pattern_lt (pos n) = omega arith
pattern_lt (negsuc n) = omega arith

pub pattern_suc : (z : ℤ) → pattern (suc_ℤ z) ≡ (pattern z + 1) % 4294967296
pattern_suc (pos n) = omega arith
pattern_suc (negsuc zero) = refl
pattern_suc (negsuc (suc n)) = omega arith

pub pattern_pred : (z : ℤ) → pattern (pred_ℤ z) ≡ (pattern z + 4294967295) % 4294967296
pattern_pred (pos zero) = refl
pattern_pred (pos (suc n)) = omega arith
pattern_pred (negsuc n) = omega arith

signed_small : (b : ℕ) → b < 2147483648 → signed b ≡ pos b
signed_small b h = simp (lt-ltb b 2147483648 h)

signed_large : (b : ℕ) → 2147483648 ≤ b → signed b ≡ negsuc (4294967295 - b)
signed_large b h = simp (le-ltb b 2147483648 h)

pub pattern_signed : (b : ℕ) → b < 4294967296 → pattern (signed b) ≡ b
pattern_signed b h = go (ltb b 2147483648) refl
  where
    go : (t : Bool) → ltb b 2147483648 ≡ t → pattern (signed b) ≡ b
    go true e = let l = ltb-true b 2147483648 e in rw (signed_small b l) (omega arith)
    go false e = let l = ltb-false b 2147483648 e in rw (signed_large b l) (omega arith)

-- what wraps is a number of 32 bits
pub wrap_small : (z : ℤ) → mag (wrap z) < 2147483648
wrap_small z = go (ltb (pattern z) 2147483648) refl
  where
    below : pattern z < 4294967296
    below = pattern_lt z

    go : (t : Bool) → ltb (pattern z) 2147483648 ≡ t → mag (wrap z) < 2147483648
    go true e = let l = ltb-true (pattern z) 2147483648 e in rw (signed_small (pattern z) l) l
    go false e = let l = ltb-false (pattern z) 2147483648 e in rw (signed_large (pattern z) l) (omega (arith, below))

-- a number of 32 bits is its own wrap
pub wrap_fits : (z : ℤ) → mag z < 2147483648 → wrap z ≡ z
wrap_fits (pos n) h = signed_small (n % 4294967296) (omega arith) ∙ ap pos (omega arith)
wrap_fits (negsuc n) h = signed_large (4294967295 - n % 4294967296) (omega arith) ∙ ap negsuc (omega arith)

pub pattern_wrap : (z : ℤ) → pattern (wrap z) ≡ pattern z
pattern_wrap z = pattern_signed (pattern z) (pattern_lt z)

-- the pattern of a sum goes by the pattern of its first summand
pub pattern_add : (x y z : ℤ) → pattern x ≡ pattern y → pattern (x +ℤ z) ≡ pattern (y +ℤ z)
pattern_add x y (pos zero) e = rw (+ℤ_idr x, +ℤ_idr y) e
pattern_add x y (pos (suc n)) e = up (pattern_add x y (pos n) e)
  where
    up : pattern (x +ℤ pos n) ≡ pattern (y +ℤ pos n) → pattern (x +ℤ pos (suc n)) ≡ pattern (y +ℤ pos (suc n))
    up h =
        ap pattern (+ℤ-suc_ℤ x (pos n)) ∙ pattern_suc (x +ℤ pos n) ∙ ap (λ (b : ℕ). (b + 1) % 4294967296) h
        ∙ sym (ap pattern (+ℤ-suc_ℤ y (pos n)) ∙ pattern_suc (y +ℤ pos n))
pattern_add x y (negsuc zero) e =
    ap pattern (+ℤ-pred_ℤ x (pos zero) ∙ ap pred_ℤ (+ℤ_idr x)) ∙ pattern_pred x ∙ ap (λ (b : ℕ). (b + 4294967295) % 4294967296) e
    ∙ sym (ap pattern (+ℤ-pred_ℤ y (pos zero) ∙ ap pred_ℤ (+ℤ_idr y)) ∙ pattern_pred y)
pattern_add x y (negsuc (suc n)) e = down (pattern_add x y (negsuc n) e)
  where
    down : pattern (x +ℤ negsuc n) ≡ pattern (y +ℤ negsuc n) → pattern (x +ℤ negsuc (suc n)) ≡ pattern (y +ℤ negsuc (suc n))
    down h =
        ap pattern (+ℤ-pred_ℤ x (negsuc n)) ∙ pattern_pred (x +ℤ negsuc n) ∙ ap (λ (b : ℕ). (b + 4294967295) % 4294967296) h
        ∙ sym (ap pattern (+ℤ-pred_ℤ y (negsuc n)) ∙ pattern_pred (y +ℤ negsuc n))

-- a wrap on the way is forgotten
pub pattern_add_wrap : (x z : ℤ) → pattern (wrap x +ℤ z) ≡ pattern (x +ℤ z)
pattern_add_wrap x z = pattern_add (wrap x) x z (pattern_wrap x)

-- the machine's bits of a count are its pattern
pub bits_are : (z : ℤ) → mag z < 2147483648 → of_z w32 z ≡ pattern z
bits_are (pos n) h = omega arith
bits_are (negsuc n) h = omega arith

-- what a count is, from its pattern
pub from_pattern : (x z : ℤ) → mag x < 2147483648 → pattern x ≡ pattern z → x ≡ wrap z
from_pattern x z h e = sym (wrap_fits x h) ∙ ap signed e
