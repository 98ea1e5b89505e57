-- A block's words in bytes are its bytes.
-- Assumes nothing.
use mathlib.Core.Path.{◌≡◌, refl, ap, ◌∙◌}
use mathlib.Core.List.{List, ◌∷◌, ◌++◌}
use Prim.Native.Nat.{ℕ, zero, suc, ◌+◌, ◌*◌, ◌/◌, ◌%◌, ◌^◌, ◌<◌}
use native.Mathlib.Omega.{arith}
use native.Mathlib.Nat.{pow-suc, zero-add, suc-add, div-lt_iff_lt-mul}
use Rattle.bits.specs.Bits.{num}
use Rattle.numbers.specs.Bytes.{le_bytes}
use Rattle.encoder_count.specs.Count.{pattern}
use Rattle.encoder.specs.declared.Encoder.{Encoder}
use Rattle.encoder_count.proofs.Wrap.{pattern_lt}
use Rattle.i2c.specs.declared.I2c.{I2c}
use Rattle.i2c.specs.I2c.{state_of, failure_number}
use Rattle.image_words.specs.Words.{i2c_bytes, FitsI2c, encoder_bytes, FitsEncoder}
use Rattle.image_words.specs.How.{i2c_number, encoder_number}
use Rattle.image_words.proofs.Numbers.{state_small}
use Rattle.image_words.proofs.Digits.{one}

-- a byte, and what is above it
pub low : (n a v : ℕ) (t : List ℕ) → a < 256 → le_bytes n v ≡ t → le_bytes (suc n) (a + 256 * v) ≡ a ∷ t
low n a v t h e =
    let p : (a + 256 * v) % 256 ≡ a = omega arith in
    let q : (a + 256 * v) / 256 ≡ v = omega arith in
    rw (p, q) (ap (λ (l : List ℕ). a ∷ l) e)

-- m bytes, and what is above them
pub lows : (m n a v : ℕ) (t : List ℕ) → a < 256 ^ m → le_bytes n v ≡ t → le_bytes (m + n) (a + 256 ^ m * v) ≡ le_bytes m a ++ t
lows zero n a v t h e =
    let p : a + 1 * v ≡ v = omega arith in
    rw (p, zero-add n) e
lows (suc m) n a v t h e =
    let p : a + 256 ^ suc m * v ≡ a + 256 * (256 ^ m * v) = rw (pow-suc 256 m) (omega arith) in
    let q : (a + 256 * (256 ^ m * v)) % 256 ≡ a % 256 = omega arith in
    let r : (a + 256 * (256 ^ m * v)) / 256 ≡ a / 256 + 256 ^ m * v = omega arith in
    let small : a / 256 < 256 ^ m = (div-lt_iff_lt-mul {k = 256} {x = a} {y = 256 ^ m} (omega arith)).1 (rw pow-suc at h) in
    rw (suc-add m n, p, q, r) (ap (λ (l : List ℕ). a % 256 ∷ l) (lows m n (a / 256) v t small e))

pub i2c_bytes_lem : (c : I2c) → FitsI2c c → le_bytes 8 (i2c_number c) ≡ i2c_bytes c
unfolding i2c_number
i2c_bytes_lem c f =
    let s = state_small c.phase in
    let o = one c.acknowledged in
    let e : c.addr + 2 ^ 8 * c.cntl + 2 ^ 16 * state_of c.phase + 2 ^ 24 * num c.acknowledged + 2 ^ 32 * c.answer + 2 ^ 40 * failure_number c.failure
    ≡ c.addr + 256 * (c.cntl + 256 * (state_of c.phase + 256 * (num c.acknowledged + 256 * (c.answer + 256 * (failure_number c.failure + 256 * 0))))) = omega arith in
    ap (le_bytes 8) e
    ∙ low 7 c.addr _ _ f.0 (low 6 c.cntl _ _ (omega arith) (low 5 (state_of c.phase) _ _ (omega arith) (low 4 (num c.acknowledged) _ _ (omega arith) (low 3 c.answer _ _ (omega arith) (low 2 (failure_number c.failure) 0 _ (omega (arith, f.3)) refl)))))

pub encoder_bytes_lem : (e : Encoder) → FitsEncoder e → le_bytes 8 (encoder_number e) ≡ encoder_bytes e
unfolding encoder_number
encoder_bytes_lem e f =
    let o = one e.seen in
    let p : pattern e.count + 2 ^ 32 * e.cnfg + 2 ^ 40 * e.stat + 2 ^ 48 * e.pins + 2 ^ 56 * num e.seen
    ≡ pattern e.count + 256 ^ 4 * (e.cnfg + 256 * (e.stat + 256 * (e.pins + 256 * (num e.seen + 256 * 0)))) = omega arith in
    ap (le_bytes 8) p
    ∙ lows 4 4 (pattern e.count) _ _ (pattern_lt e.count) (low 3 e.cnfg _ _ (omega arith) (low 2 e.stat _ _ (omega arith) (low 1 e.pins _ _ (omega arith) (low 0 (num e.seen) 0 _ (omega arith) refl))))
