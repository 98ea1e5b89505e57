-- Bytes at a place, of two runs one after the other.
-- Assumes nothing.
use mathlib.Core.Path.{◌≡◌, refl, sym, ap, ◌∙◌, subst}
use mathlib.Core.List.{List, [], ◌∷◌, ◌++◌}
use Prim.Native.Nat.{ℕ, zero, suc, ◌+◌, ◌<◌, ◌≤◌}
use native.Mathlib.Omega.{arith}
use native.Mathlib.Nat.{add-zero, zero-add, add-suc, suc-add}
use lib.ListN.{length, take}
use lib.Seq.{ext_get_or, length-take-le, get_or-take}
use Rattle.numbers.specs.Bytes.{byte}
use Rattle.codec.specs.How.{Has, Bytes}

pub has_first : (s : List ℕ) (xs ys : List ℕ) (at : ℕ) → Has s at (xs ++ ys) → Has s at xs
has_first s [] ys at h = tt
has_first s (x ∷ xs) ys at h = (h.0, has_first s xs ys (suc at) h.1)

has_then : (s : List ℕ) (xs ys : List ℕ) (at : ℕ) → Has s at (xs ++ ys) → Has s (at + length xs) ys
has_then s [] ys at h = rw (add-zero at) h
has_then s (x ∷ xs) ys at h = rw (add-suc at (length xs), ← suc-add at (length xs)) (has_then s xs ys (suc at) h.1)

pub has_second : (s xs ys : List ℕ) (at w : ℕ) → length xs ≡ w → Has s at (xs ++ ys) → Has s (at + w) ys
has_second s xs ys at w e h = subst (λ (n : ℕ). Has s (at + n) ys) e (has_then s xs ys at h)

has_join : (s xs ys : List ℕ) (at : ℕ) → Has s at xs → Has s (at + length xs) ys → Has s at (xs ++ ys)
has_join s [] ys at h k = rw (add-zero at) at k
has_join s (x ∷ xs) ys at h k = (h.0, has_join s xs ys (suc at) h.1 (rw (add-suc at (length xs), ← suc-add at (length xs)) at k))

pub has_both : (s xs ys : List ℕ) (at w : ℕ) → length xs ≡ w → Has s at xs → Has s (at + w) ys → Has s at (xs ++ ys)
has_both s xs ys at w e h k = has_join s xs ys at h (subst (λ (n : ℕ). Has s (at + n) ys) (sym e) k)

has_one : (s xs : List ℕ) (at i : ℕ) → Has s at xs → i < length xs → byte xs i ≡ byte s (at + i)
has_one s [] at i h k = absurd (below k)
  where
    below : i < 0 → ⊥
    below l = omega arith
has_one s (x ∷ xs) at zero h k = rw (add-zero at) (sym h.0)
has_one s (x ∷ xs) at (suc i) h k = rw (add-suc at i, ← suc-add at i) (has_one s xs (suc at) i h.1 (omega arith))

-- bytes that s begins with
pub has_front : (s xs : List ℕ) → length xs ≤ length s → Has s 0 xs → xs ≡ take (length xs) s
has_front s xs e h =
    let long = length-take-le (length xs) s e in
    ext_get_or 0 xs (take (length xs) s) (sym long) (λ i k. has_one s xs 0 i h k ∙ ap (byte s) (zero-add i) ∙ sym (get_or-take (length xs) s i 0 k))

has_cons : (s xs : List ℕ) (y at : ℕ) → Has s at xs → Has (y ∷ s) (suc at) xs
has_cons s [] y at h = tt
has_cons s (x ∷ xs) y at h = (h.0, has_cons s xs y (suc at) h.1)

pub has_self : (xs : List ℕ) → Has xs 0 xs
has_self [] = tt
has_self (x ∷ xs) = (refl, has_cons xs xs x 0 (has_self xs))

pub bytes_both : (xs ys : List ℕ) → Bytes xs → Bytes ys → Bytes (xs ++ ys)
bytes_both [] ys p q i = q i
bytes_both (x ∷ xs) ys p q zero = p zero
bytes_both (x ∷ xs) ys p q (suc i) = bytes_both xs ys (λ j. p (suc j)) q i
