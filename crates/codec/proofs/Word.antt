-- A number of 8 bytes, and a byte.
-- Assumes nothing.
use mathlib.Core.Path.{◌≡◌, refl, ap, ◌∙◌}
use mathlib.Core.Bool.{Bool, true}
use mathlib.Core.List.{List, [], ◌∷◌}
use Prim.Native.Nat.{ℕ, zero, suc, ◌+◌, ◌*◌, ◌/◌, ◌^◌, ◌<◌}
use native.Mathlib.Omega.{arith}
use native.Mathlib.Nat.{pow-suc, div-lt_iff_lt-mul}
use Rattle.numbers.specs.Bytes.{byte, le_of, le_bytes}
use Rattle.codec.specs.How.{Has, Bytes, Lawful, Number, save_word, load_word, ok_word}

le_has : (n v : ℕ) (s : List ℕ) (at : ℕ) → v < 256 ^ n → Has s at (le_bytes n v) → le_of n s at ≡ v
unfolding le_of
le_has zero v s at h k = omega arith
le_has (suc n) v s at h k =
    let small : v / 256 < 256 ^ n = (div-lt_iff_lt-mul {k = 256} {x = v} {y = 256 ^ n} (omega arith)).1 (rw pow-suc at h) in
    rw (k.0, le_has n (v / 256) s (suc at) small k.1) (omega arith)

has_le : (n : ℕ) (s : List ℕ) (at : ℕ) → Bytes s → Has s at (le_bytes n (le_of n s at))
unfolding le_of
has_le zero s at b = tt
has_le (suc n) s at b =
    let h = b at in
    let e : (byte s at + 256 * le_of n s (suc at)) / 256 ≡ le_of n s (suc at) = omega arith in
    (omega arith, rw e (has_le n s (suc at) b))

le_small : (n : ℕ) (s : List ℕ) (at : ℕ) → Bytes s → le_of n s at < 256 ^ n
unfolding le_of
le_small zero s at b = omega arith
le_small (suc n) s at b = rw (pow-suc 256 n) (omega (arith, b at, le_small n s (suc at) b))

le_bytes_lem : (n v : ℕ) → Bytes (le_bytes n v)
le_bytes_lem zero v i = omega arith
le_bytes_lem (suc n) v zero = omega arith
le_bytes_lem (suc n) v (suc i) = le_bytes_lem n (v / 256) i

pub word_lawful : {X : Type 0} {good : ℕ → Bool} {number : X → ℕ} {value : ℕ → X} {Fits : X → Type 0} → Number good number value Fits
    → Lawful 8 (save_word number) (load_word value) (ok_word good) Fits
word_lawful {X} {good} {number} {value} {Fits} l = record {
  long = λ x f. refl;
  bytes = λ x f. le_bytes_lem 8 (number x);
  back = λ x f s at h. ap value (held x f s at h) ∙ l.back x f;
  passes = λ x f s at h. ap good (held x f s at h) ∙ l.passes x f;
  image = λ s at y h. rw (l.image (le_of 8 s at) (le_small 8 s at y) h) (has_le 8 s at y);
  fits = λ s at y h. l.fits (le_of 8 s at) (le_small 8 s at y) h;
}
  where
    held : (x : X) → Fits x → (s : List ℕ) (at : ℕ) → Has s at (save_word number x) → le_of 8 s at ≡ number x
    held x f s at h = le_has 8 (number x) s at (l.small x f) h

-- any number of 8 bytes
pub any_number : Number (λ v. true) (λ (v : ℕ). v) (λ v. v) (λ v. v < 256 ^ 8)
any_number = record { small = λ v h. h; back = λ v h. refl; passes = λ v h. refl; image = λ v h g. refl; fits = λ v h g. h }

-- any byte
pub byte_lawful : Lawful 1 (λ v. v ∷ []) byte (λ s at. true) (λ v. v < 256)
byte_lawful = record {
  long = λ x f. refl;
  bytes = λ x f i. one x f i;
  back = λ x f s at h. h.0;
  passes = λ x f s at h. refl;
  image = λ s at y h. (refl, tt);
  fits = λ s at y h. y at;
}
  where
    one : (x : ℕ) → x < 256 → (i : ℕ) → byte (x ∷ []) i < 256
    one x f zero = f
    one x f (suc i) = omega arith
