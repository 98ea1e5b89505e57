-- The pins that pass a test, all at once: how operations on all bits find them, and what two such numbers say.
-- Assumes nothing.
use mathlib.Core.Path.{◌≡◌, refl, ap, ◌∙◌}
use mathlib.Core.Bool.{Bool, true, false}
use Prim.Native.Nat.{ℕ, zero, suc, ◌+◌, ◌*◌, ◌/◌, ◌%◌, ◌^◌, ◌<◌}
use native.Mathlib.Nat.{div-div-eq-div-mul, not-suc-le-zero, le_of_suc-le-suc, div-one}
use native.Mathlib.Omega.{arith}
use lib.Dec.{eqb}
use lib.Bits.{bit_and, bit_or, bit_xor, and_block, and_mask, and_zero_r, and_shr, or_shr, xor_shr, and_mod, or_mod, xor_mod}
use Rattle.bits.specs.Bits.{num}
use Rattle.select_allowed.specs.How.{marks, ones, threes, twos}

-- ---- operations on all bits

-- the low bit of the first n fields
mask : ℕ → ℕ
mask zero = 0
mask (suc n) = mask n * 4 + 1

mask_step : (x m : ℕ) → bit_and x (m * 4 + 1) ≡ bit_and (x / 4) m * 4 + x % 2
mask_step x m =
    let e : x ≡ x / 4 * 4 + x % 4 = omega arith in
    let l : x % 4 % 2 ≡ x % 2 = omega arith in
    ap (λ (y : ℕ). bit_and y (m * 4 + 1)) e ∙ and_block 2 (x / 4) m (x % 4) 1 (omega arith) (omega arith)
    ∙ ap (λ (y : ℕ). bit_and (x / 4) m * 4 + y) (and_mask (x % 4) 1 ∙ l)

-- an operation that takes field by field, and gives in the low bit whether the field passes
module _ (op : ℕ → ℕ) (f : ℕ → Bool) (up : (s : ℕ) → op s / 4 ≡ op (s / 4)) (low : (s : ℕ) → op s % 2 ≡ num (f (s % 4))) where
  masked : (n s : ℕ) → bit_and (op s) (mask n) ≡ marks f n s
  unfolding mask marks
  masked zero s = and_zero_r (op s)
  masked (suc n) s = mask_step (op s) (mask n) ∙ rw (up s, low s, masked n (s / 4))

eighth : (s : ℕ) → s / 2 / 4 ≡ s / 4 / 2
eighth s = omega arith

high : (s : ℕ) → s / 2 % 2 ≡ s % 4 / 2
high s = omega arith

low : (s : ℕ) → s % 2 ≡ s % 4 % 2
low s = omega arith

both_bits : (v : ℕ) → v < 4 → bit_and (v % 2) (v / 2) ≡ num (eqb v 3)
both_bits zero h = refl
both_bits (suc zero) h = refl
both_bits (suc (suc zero)) h = refl
both_bits (suc (suc (suc zero))) h = refl
both_bits (suc (suc (suc (suc v)))) h = absurd (omega (arith, h))

high_bit : (v : ℕ) → v < 4 → bit_xor (bit_or (v % 2) (v / 2)) (v % 2) ≡ num (eqb v 2)
high_bit zero h = refl
high_bit (suc zero) h = refl
high_bit (suc (suc zero)) h = refl
high_bit (suc (suc (suc zero))) h = refl
high_bit (suc (suc (suc (suc v)))) h = absurd (omega (arith, h))

low_bit : (v : ℕ) → v < 4 → bit_xor (bit_or (v % 2) (v / 2)) (v / 2) ≡ num (eqb v 1)
low_bit zero h = refl
low_bit (suc zero) h = refl
low_bit (suc (suc zero)) h = refl
low_bit (suc (suc (suc zero))) h = refl
low_bit (suc (suc (suc (suc v)))) h = absurd (omega (arith, h))

pub threes_found : (s : ℕ) → bit_and (bit_and s (s / 2)) 366503875925 ≡ threes s
unfolding mask
threes_found s =
    masked (λ (x : ℕ). bit_and x (x / 2)) (λ (v : ℕ). eqb v 3)
    (λ x. and_shr x (x / 2) 2 ∙ rw (eighth x))
    (λ x. and_mod x (x / 2) 1 ∙ rw (low x, high x) (both_bits (x % 4) (omega arith)))
    20 s

pub twos_found : (s : ℕ) → bit_and (bit_xor (bit_or s (s / 2)) s) 366503875925 ≡ twos s
unfolding mask
twos_found s =
    masked (λ (x : ℕ). bit_xor (bit_or x (x / 2)) x) (λ (v : ℕ). eqb v 2)
    (λ x. xor_shr (bit_or x (x / 2)) x 2 ∙ rw (or_shr x (x / 2) 2, eighth x))
    (λ x. xor_mod (bit_or x (x / 2)) x 1 ∙ rw (or_mod x (x / 2) 1, low x, high x) (high_bit (x % 4) (omega arith)))
    20 s

pub ones_found : (s : ℕ) → bit_and (bit_xor (bit_or s (s / 2)) (s / 2)) 366503875925 ≡ ones s
unfolding mask
ones_found s =
    masked (λ (x : ℕ). bit_xor (bit_or x (x / 2)) (x / 2)) (λ (v : ℕ). eqb v 1)
    (λ x. xor_shr (bit_or x (x / 2)) (x / 2) 2 ∙ rw (or_shr x (x / 2) 2, eighth x))
    (λ x. xor_mod (bit_or x (x / 2)) (x / 2) 1 ∙ rw (or_mod x (x / 2) 1, low x, high x) (low_bit (x % 4) (omega arith)))
    20 s

-- ---- pin by pin

abbrev pub at : ℕ → ℕ → ℕ
at s p = s / 2 ^ (2 * p) % 4

at_zero : (s : ℕ) → at s 0 ≡ s % 4
at_zero s = ap (λ (x : ℕ). x % 4) (div-one s)

shift : (s p : ℕ) → s / 2 ^ (2 * suc p) ≡ s / 4 / 2 ^ (2 * p)
shift s p =
    let up : 2 * suc p ≡ suc (suc (2 * p)) = omega arith in
    let power : 4 * 2 ^ (2 * p) ≡ 2 ^ suc (suc (2 * p)) = omega arith in
    rw (up, ← power, div-div-eq-div-mul s 4 (2 ^ (2 * p)))

at_suc : (s p : ℕ) → at s (suc p) ≡ at (s / 4) p
at_suc s p = ap (λ (x : ℕ). x % 4) (shift s p)

top : (x y : ℕ) (a b : Bool) → x * 4 + num a ≡ y * 4 + num b → x ≡ y
top x y true true e = omega arith
top x y true false e = omega arith
top x y false true e = omega arith
top x y false false e = omega arith

last : (x y : ℕ) (a b : Bool) → x * 4 + num a ≡ y * 4 + num b → a ≡ b
last x y true true e = refl
last x y true false e = absurd (omega arith)
last x y false true e = absurd (omega arith)
last x y false false e = refl

-- the mark of a pin is the bit at its place
mark_last : (m : ℕ) (b : Bool) → (m * 4 + num b) % 2 ≡ num b
mark_last m true = omega arith
mark_last m false = omega arith

mark_rest : (m : ℕ) (b : Bool) → (m * 4 + num b) / 4 ≡ m
mark_rest m true = omega arith
mark_rest m false = omega arith

module _ (f : ℕ → Bool) where
  pub mark : (n s p : ℕ) → p < n → marks f n s / 2 ^ (2 * p) % 2 ≡ num (f (at s p))
  unfolding marks
  mark zero s p h = absurd (not-suc-le-zero h)
  mark (suc n) s zero h =
      let m = marks f n (s / 4) in
      rw (at_zero s) (ap (λ (x : ℕ). x % 2) (div-one (m * 4 + num (f (s % 4)))) ∙ mark_last m (f (s % 4)))
  mark (suc n) s (suc p) h =
      let m = marks f n (s / 4) in
      rw (at_suc s p)
      (ap (λ (x : ℕ). x % 2) (shift (m * 4 + num (f (s % 4))) p ∙ ap (λ (x : ℕ). x / 2 ^ (2 * p)) (mark_rest m (f (s % 4))))
      ∙ mark n (s / 4) p (le_of_suc-le-suc h))

-- equal marks are marks of the same pins
module _ (f : ℕ → Bool) where
  pub same_pins : (n s t : ℕ) → marks f n s ≡ marks f n t → (p : ℕ) → p < n → f (at s p) ≡ f (at t p)
  unfolding marks
  same_pins zero s t e p h = absurd (not-suc-le-zero h)
  same_pins (suc n) s t e zero h = rw (at_zero s, at_zero t) (last _ _ (f (s % 4)) (f (t % 4)) e)
  same_pins (suc n) s t e (suc p) h =
      rw (at_suc s p, at_suc t p) (same_pins n (s / 4) (t / 4) (top _ _ (f (s % 4)) (f (t % 4)) e) p (le_of_suc-le-suc h))

  pub same_marks : (n s t : ℕ) → ((p : ℕ) → p < n → f (at s p) ≡ f (at t p)) → marks f n s ≡ marks f n t
  unfolding marks
  same_marks zero s t h = refl
  same_marks (suc n) s t h =
      let first : f (s % 4) ≡ f (t % 4) = rw (at_zero s, at_zero t) at (h 0 (omega arith)) in
      let rest = same_marks n (s / 4) (t / 4) (λ p l. rw (at_suc s p, at_suc t p) at (h (suc p) (omega arith))) in
      rw (first, rest)

-- ---- pair by pair

unfoldable pub double : ℕ → ℕ
double zero = zero
double (suc n) = suc (suc (double n))

-- the low bit of the first n pairs
unfoldable pub pairs : ℕ → ℕ
pairs zero = 0
pairs (suc n) = pairs n * 16 + 1

low_pin : (e m : ℕ) (a b : Bool) → bit_and ((e * 4 + num b) * 4 + num a) (m * 16 + 1) ≡ bit_and e m * 16 + num a
low_pin e m a b =
    let r : (e * 4 + num b) * 4 + num a ≡ e * 16 + (num b * 4 + num a) = omega arith in
    ap (λ (x : ℕ). bit_and x (m * 16 + 1)) r ∙ and_block 4 e m (num b * 4 + num a) 1 (small a b) (omega arith) ∙ ap (λ (x : ℕ). bit_and e m * 16 + x) (one a b)
  where
    small : (a b : Bool) → num b * 4 + num a < 16
    small true true = omega arith
    small true false = omega arith
    small false true = omega arith
    small false false = omega arith

    one : (a b : Bool) → bit_and (num b * 4 + num a) 1 ≡ num a
    one true true = refl
    one true false = refl
    one false true = refl
    one false false = refl

pair_same : (x e : ℕ) (a b : Bool) → (x * 16 + num a) * 5 ≡ (e * 4 + num b) * 4 + num a → a ≡ b
pair_same x e true true q = refl
pair_same x e true false q = absurd (omega arith)
pair_same x e false true q = absurd (omega arith)
pair_same x e false false q = refl

pair_rest : (x e : ℕ) (a b : Bool) → (x * 16 + num a) * 5 ≡ (e * 4 + num b) * 4 + num a → x * 5 ≡ e
pair_rest x e true true q = omega arith
pair_rest x e true false q = absurd (omega arith)
pair_rest x e false true q = absurd (omega arith)
pair_rest x e false false q = omega arith

at_low : (s i : ℕ) → at s (2 * suc i) ≡ at (s / 4 / 4) (2 * i)
at_low s i = let e : 2 * suc i ≡ suc (suc (2 * i)) = omega arith in rw e (at_suc s (suc (2 * i)) ∙ at_suc (s / 4) (2 * i))

at_high : (s i : ℕ) → at s (2 * suc i + 1) ≡ at (s / 4 / 4) (2 * i + 1)
at_high s i = let e : 2 * suc i + 1 ≡ suc (suc (2 * i + 1)) = omega arith in rw e (at_suc s (suc (2 * i + 1)) ∙ at_suc (s / 4) (2 * i + 1))

at_one : (s : ℕ) → at s 1 ≡ s / 4 % 4
at_one s = at_suc s 0 ∙ at_zero (s / 4)

-- the low pins of the pairs, each with its next one, are all marks exactly if the pins of each pair are marked alike
module _ (f : ℕ → Bool) where
  pub alike : (n s : ℕ) → bit_and (marks f (double n) s) (pairs n) * 5 ≡ marks f (double n) s → (i : ℕ) → i < n → f (at s (2 * i)) ≡ f (at s (2 * i + 1))
  unfolding marks double pairs
  alike zero s e i h = absurd (not-suc-le-zero h)
  alike (suc n) s e zero h =
      let q = rw (low_pin (marks f (double n) (s / 4 / 4)) (pairs n) (f (s % 4)) (f (s / 4 % 4))) at e in
      rw (at_zero s, at_one s) (pair_same _ _ (f (s % 4)) (f (s / 4 % 4)) q)
  alike (suc n) s e (suc i) h =
      let q = rw (low_pin (marks f (double n) (s / 4 / 4)) (pairs n) (f (s % 4)) (f (s / 4 % 4))) at e in
      rw (at_low s i, at_high s i) (alike n (s / 4 / 4) (pair_rest _ _ (f (s % 4)) (f (s / 4 % 4)) q) i (le_of_suc-le-suc h))

  pub all_pairs : (n s : ℕ) → ((i : ℕ) → i < n → f (at s (2 * i)) ≡ f (at s (2 * i + 1))) → bit_and (marks f (double n) s) (pairs n) * 5 ≡ marks f (double n) s
  unfolding marks double pairs
  all_pairs zero s h = refl
  all_pairs (suc n) s h =
      let first : f (s % 4) ≡ f (s / 4 % 4) = rw (at_zero s, at_one s) at (h 0 (omega arith)) in
      let rest = all_pairs n (s / 4 / 4) (λ i l. rw (at_low s i, at_high s i) at (h (suc i) (omega arith))) in
      rw (low_pin (marks f (double n) (s / 4 / 4)) (pairs n) (f (s % 4)) (f (s / 4 % 4)), first)
      (omega (arith, rest))
