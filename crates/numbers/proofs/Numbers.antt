-- Numbers in bytes: one law for every width, and that a number's bytes give it back, and the other way.
-- Assumes nothing.
use mathlib.Core.Path.{◌≡◌, refl, sym, ap, ◌∙◌}
use mathlib.Core.List.{List, [], ◌∷◌, ◌++◌, append_assoc}
use Prim.Native.Nat.{ℕ, zero, suc, ◌+◌, ◌-◌, ◌*◌, ◌/◌, ◌%◌, ◌^◌, ◌≤◌, ◌<◌}
use native.Mathlib.Omega.{arith}
use native.Mathlib.Nat.{zero-add, suc-add, add-suc, pow-suc, pow-succ', mul_comm, div-div-eq-div-mul, div-lt_iff_lt-mul}
use lib.ListN.{length, take, drop, replicate, length-drop}
use Rattle.std.proofs.lemmas.List.{drop-drop, length-take-le}
use lib.Seq.{get_or-take, get_or-drop, drop-cons, get_or-append-add, sets, sets-eq}
use borrow.Rule.Slice.PartMut.{put_mid}
use Rattle.std.specs.Int.{w64, bytes_low_first, byte_at, from_le_bytes}
use Rattle.numbers.specs.Bytes.{byte, le_of, le_bytes}

-- behind other bytes
pub le_behind : (n : ℕ) (p s : List ℕ) (at : ℕ) → le_of n (p ++ s) (length p + at) ≡ le_of n s at
unfolding le_of
le_behind zero p s at = refl
le_behind (suc n) p s at = rw (get_or-append-add p s at 0, ← add-suc (length p) at, le_behind n p s (suc at))

-- a part's number
pub le_part : (w n i at : ℕ) (s : List ℕ) → i + n ≤ w → le_of n (take w (drop at s)) i ≡ le_of n s (at + i)
unfolding le_of
le_part w zero i at s h = refl
le_part w (suc n) i at s h = rw (get_or-take w (drop at s) i 0 (omega arith), get_or-drop at s i 0, le_part w n (suc i) at s (omega arith), add-suc at i)

pub le_small : (n at : ℕ) (s : List ℕ) → ((i : ℕ) → byte s i < 256) → le_of n s at < 256 ^ n
unfolding le_of
le_small zero at s b = omega arith
le_small (suc n) at s b = rw (pow-succ' 256 n) (omega (arith, b at, le_small n (suc at) s b))

-- zeros behind a number's bytes change nothing
abbrev zeros : ℕ → List ℕ
zeros m = replicate m 0

zero_read : (m k : ℕ) → byte (zeros m) k ≡ 0
zero_read zero k = refl
zero_read (suc m) zero = refl
zero_read (suc m) (suc k) = zero_read m k

le_zero : (m at : ℕ) (z : List ℕ) → ((i : ℕ) → byte z i ≡ 0) → le_of m z at ≡ 0
unfolding le_of
le_zero zero at z h = refl
le_zero (suc m) at z h = omega (arith, h at, le_zero m (suc at) z h)

le_padded : (m : ℕ) (p z : List ℕ) → le_of m z 0 ≡ 0 → le_of (length p + m) (p ++ z) 0 ≡ le_of (length p) p 0
unfolding le_of
le_padded m [] z h = ap (λ (k : ℕ). le_of k z 0) (zero-add m) ∙ h
le_padded m (x ∷ p) z h = rw (suc-add (length p) m, le_behind (length p + m) (x ∷ []) (p ++ z) 0, le_behind (length p) (x ∷ []) p 0, le_padded m p z h)

eight : (b : List ℕ) → from_le_bytes w64 b ≡ le_of 8 b 0
unfolding le_of
eight b = omega arith

pub le_read : (n at v : ℕ) (s p : List ℕ) → n ≤ 8 → at + n ≤ length s → p ≡ take (at + n - at) (drop at s) → v ≡ from_le_bytes w64 (p ++ drop n (zeros 8)) → v ≡ le_of n s at
le_read n at v s p h l q e =
    let w : at + n - at ≡ n = omega arith in
    let part : p ≡ take n (drop at s) = rw w at q in
    let long : length p ≡ n = ap length part ∙ length-take-le n (drop at s) (omega (arith, length-drop at s)) in
    let whole : 8 ≡ length p + (8 - n) = omega arith in
    let none : le_of (8 - n) (drop n (zeros 8)) 0 ≡ 0 = le_zero (8 - n) 0 (drop n (zeros 8)) (λ i. get_or-drop n (zeros 8) i 0 ∙ zero_read 8 (n + i)) in
    let z : at + 0 ≡ at = omega arith in
    e
    ∙ eight (p ++ drop n (zeros 8))
    ∙ ap (λ (m : ℕ). le_of m (p ++ drop n (zeros 8)) 0) whole
    ∙ le_padded (8 - n) p (drop n (zeros 8)) none
    ∙ ap (λ (m : ℕ). le_of m p 0) long
    ∙ ap (λ (r : List ℕ). le_of n r 0) part
    ∙ le_part n n 0 at s (omega arith)
    ∙ ap (le_of n s) z

-- a number of n bytes is what its bytes say
pub le_bytes_lem : (n v : ℕ) (rest : List ℕ) → v < 256 ^ n → le_of n (le_bytes n v ++ rest) 0 ≡ v
unfolding le_of
le_bytes_lem zero v rest h = omega arith
le_bytes_lem (suc n) v rest h =
    let small : v / 256 < 256 ^ n = (div-lt_iff_lt-mul {k = 256} {x = v} {y = 256 ^ n} (omega arith)).1 (rw pow-suc at h) in
    rw (le_behind n (v % 256 ∷ []) (le_bytes n (v / 256) ++ rest) 0, le_bytes_lem n (v / 256) rest small) (omega arith)

-- n bytes are those of their number
pub bytes_le : (n : ℕ) (s : List ℕ) (at : ℕ) → ((i : ℕ) → byte s i < 256) → at + n ≤ length s → le_bytes n (le_of n s at) ≡ take n (drop at s)
unfolding le_of
bytes_le zero s at b h = refl
bytes_le (suc n) s at b h =
    let d : (byte s at + 256 * le_of n s (suc at)) / 256 ≡ le_of n s (suc at) = omega (arith, b at) in
    let m : (byte s at + 256 * le_of n s (suc at)) % 256 ≡ byte s at = omega (arith, b at) in
    rw (d, m, bytes_le n s (suc at) b (omega arith), drop-cons s at 0 (omega arith))

-- the n bytes of a number are the first of `to_le_bytes`
low_bytes : (n k i v : ℕ) → n ≤ k → take n (bytes_low_first i k v) ≡ le_bytes n (v / 256 ^ i)
low_bytes zero k i v h = refl
low_bytes (suc n) zero i v h = absurd (omega arith)
low_bytes (suc n) (suc k) i v h =
    let e : v / 256 ^ suc i ≡ v / 256 ^ i / 256 = rw (pow-succ' 256 i, mul_comm 256 (256 ^ i)) (sym (div-div-eq-div-mul v (256 ^ i) 256)) in
    rw (low_bytes n k (suc i) v (omega arith), e, byte_is i v)
  where
    byte_is : (i v : ℕ) → byte_at i v ≡ v / 256 ^ i % 256
    byte_is zero v = omega arith
    byte_is (suc i) v = refl

long_bytes : (n v : ℕ) → length (le_bytes n v) ≡ n
long_bytes zero v = refl
long_bytes (suc n) v = ap suc (long_bytes n (v / 256))

-- a slice's part put back is bytes stored
pub mid_sets : (out s : List ℕ) (at k : ℕ) → k ≡ length s → at + k ≤ length out → put_mid at k out s ≡ sets out at s
mid_sets out s at k e h = sym (sets-eq s out at (omega arith) ∙ rw (← e, ← drop-drop k at out) (append_assoc (take at out) s (drop k (drop at out))))

pub stored : (n v at : ℕ) (out b s : List ℕ) → n ≤ 8 → at + n ≤ length out → b ≡ bytes_low_first 0 8 v → s ≡ take n b
    → put_mid at (at + n - at) out s ≡ sets out at (le_bytes n v)
stored n v at out b s m h p q =
    let e : s ≡ le_bytes n v = q ∙ ap (take n) p ∙ low_bytes n 8 0 v m ∙ ap (le_bytes n) (omega arith) in
    let l : at + n - at ≡ length s = omega (arith, ap length e, long_bytes n v) in
    mid_sets out s at (at + n - at) l (omega arith) ∙ ap (sets out at) e
