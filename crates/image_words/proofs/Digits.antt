-- Each block's number gives it back, and each number that passes is a block's.
-- Assumes nothing.
use mathlib.Core.Path.{◌≡◌, refl, sym, ap, ◌∙◌}
use mathlib.Core.Bool.{Bool, true, false, cond, ◌&&◌}
use Prim.Native.Nat.{ℕ, zero, suc, ◌+◌, ◌*◌, ◌/◌, ◌%◌, ◌^◌, ◌<◌}
use native.Mathlib.Omega.{arith}
use native.Mathlib.Nat.{mod-lt, mod-eq_of_lt, add-mul-mod_self_left, div-add-mod', mul-le-mul_left}
use lib.Dec.{T, eqb, ltb, ltb→lt}
use lib.IntN.{pos}
use borrow.Author.Tests.{lt-ltb, ltb-true, ltb-false}
use Rattle.laws.proofs.Truth.{both_true}
use Rattle.bits.specs.Bits.{num}
use Rattle.codec.specs.How.{Number}
use Rattle.encoder_count.specs.Count.{pattern, signed}
use Rattle.encoder.specs.declared.Encoder.{Encoder}
use Rattle.encoder_count.proofs.Wrap.{pattern_lt, pattern_signed, wrap_small, wrap_fits}
use Rattle.i2c_code.specs.declared.Phase.{Phase}
use Rattle.i2c_code.specs.declared.Phase.TheVariants.{Idle, TxIdle, RxIdle}
use Rattle.std.proofs.Common.{Option, None, Some}
use Rattle.i2c_code.specs.declared.Failure.{Failure}
use Rattle.i2c_code.specs.declared.Failure.TheVariants.{Address, Data, Other}
use Rattle.i2c.specs.declared.I2c.{I2c}
use Rattle.i2c.specs.I2c.{state_of, failure_number}
use Rattle.image_words.specs.Words.{FitsI2c, FitsEncoder}
use Rattle.image_words.specs.How.{is_select, phase_of, failure_of, i2c_number, i2c_of, is_i2c, encoder_number, encoder_of, is_encoder}
use Rattle.image_words.proofs.Numbers.{state_small}

-- ---- a bit

pub one : (b : Bool) → num b < 2
one true = omega arith
one false = omega arith

pub is : (b : Bool) (n : ℕ) → n ≡ num b → eqb (n % 2) 1 ≡ b
is true n e = rw e
is false n e = rw e

is_one : (b : Bool) (n : ℕ) → n ≡ num b → eqb n 1 ≡ b
is_one true n e = rw e
is_one false n e = rw e

pub num_bit : (n : ℕ) → n < 2 → num (eqb (n % 2) 1) ≡ n
num_bit zero h = refl
num_bit (suc zero) h = refl
num_bit (suc (suc n)) h = absurd (omega arith)

-- ---- digits: those below a, and the next one of b

pub more : (v a b : ℕ) → T (ltb 0 a) → T (ltb 0 b) → v % a + a * (v / a % b) ≡ v % (a * b)
more v a b p q = sym (ap (λ (n : ℕ). n % (a * b)) whole ∙ add-mul-mod_self_left (v % a + a * (v / a % b)) (a * b) (v / a / b) ∙ mod-eq_of_lt small)
  where
    low : v % a < a
    low = mod-lt v (ltb→lt 0 a p)

    next : v / a % b < b
    next = mod-lt (v / a) (ltb→lt 0 b q)

    small : v % a + a * (v / a % b) < a * b
    small = omega (arith, low, mul-le-mul_left a next)

    whole : v ≡ v % a + a * (v / a % b) + a * b * (v / a / b)
    whole = omega (arith, div-add-mod' v a, ap (λ (n : ℕ). a * n) (div-add-mod' (v / a) b))

-- ---- tests, one after the other

test : (a k : ℕ) (b : Bool) → (ltb a k && b) ≡ true → (a < k) × (b ≡ true)
test a k b h =
    let r = both_true (ltb a k) b h in
    (ltb-true a k r.0, r.1)

four : (a b c d k l m n : ℕ) → (ltb a k && (ltb b l && (ltb c m && ltb d n))) ≡ true → (a < k) × ((b < l) × ((c < m) × (d < n)))
four a b c d k l m n h =
    let p = test a k (ltb b l && (ltb c m && ltb d n)) h in
    let q = test b l (ltb c m && ltb d n) p.1 in
    let r = test c m (ltb d n) q.1 in
    (p.0, (q.0, (r.0, ltb-true d n r.1)))

-- ---- SELECT

pub select_number : Number is_select (λ (v : ℕ). v) (λ v. v) (λ v. v < 2 ^ 40)
select_number = record { small = λ v h. omega arith; back = λ v h. refl; passes = λ v h. lt-ltb v (2 ^ 40) h; image = λ v s h. refl; fits = λ v s h. ltb-true v (2 ^ 40) h }

-- ---- an encoder: five digits

module _ (a b c d f n : ℕ) (e : n ≡ a + 2 ^ 32 * b + 2 ^ 40 * c + 2 ^ 48 * d + 2 ^ 56 * f)
    (ha : a < 2 ^ 32) (hb : b < 32) (hc : c < 64) (hd : d < 4) (hf : f < 2) where
  digit_a : n % 2 ^ 32 ≡ a
  digit_a = omega arith

  digit_b : n / 2 ^ 32 % 2 ^ 8 ≡ b
  digit_b = omega arith

  digit_c : n / 2 ^ 40 % 2 ^ 8 ≡ c
  digit_c = omega arith

  digit_d : n / 2 ^ 48 % 2 ^ 8 ≡ d
  digit_d = omega arith

  digit_f : n / 2 ^ 56 ≡ f
  digit_f = omega arith

  digits_small : n < 256 ^ 8
  digits_small = omega arith

  digits_pass : is_encoder n ≡ true
  digits_pass = rw (digit_b, digit_c, digit_d, digit_f, lt-ltb b 32 hb, lt-ltb c 64 hc, lt-ltb d 4 hd, lt-ltb f 2 hf)

module _ (e : Encoder) (f : FitsEncoder e) where
  abbrev n : ℕ
  n = encoder_number e

  encoder_back : encoder_of n ≡ e
  unfolding encoder_number encoder_of
  encoder_back =
      let p = pattern_lt e.count in
      let q = one e.seen in
      λ i. record {
        count = (ap signed (digit_a (pattern e.count) e.cnfg e.stat e.pins (num e.seen) n refl p f.1 f.2 f.3 q) ∙ wrap_fits e.count f.0) i;
        cnfg = digit_b (pattern e.count) e.cnfg e.stat e.pins (num e.seen) n refl p f.1 f.2 f.3 q i;
        stat = digit_c (pattern e.count) e.cnfg e.stat e.pins (num e.seen) n refl p f.1 f.2 f.3 q i;
        pins = digit_d (pattern e.count) e.cnfg e.stat e.pins (num e.seen) n refl p f.1 f.2 f.3 q i;
        seen = is e.seen (n / 2 ^ 56) (digit_f (pattern e.count) e.cnfg e.stat e.pins (num e.seen) n refl p f.1 f.2 f.3 q) i;
      }

encoder_image : (v : ℕ) → v / 2 ^ 56 < 2 → encoder_number (encoder_of v) ≡ v
unfolding encoder_number encoder_of
encoder_image v top =
    rw (pattern_signed (v % 2 ^ 32) (omega arith), num_bit (v / 2 ^ 56) top, more v (2 ^ 32) (2 ^ 8) tt tt, more v (2 ^ 40) (2 ^ 8) tt tt, more v (2 ^ 48) (2 ^ 8) tt tt)
    (omega arith)

module _ (v : ℕ) (h : is_encoder v ≡ true) where
  encoder_passed : (v / 2 ^ 32 % 2 ^ 8 < 32) × ((v / 2 ^ 40 % 2 ^ 8 < 64) × ((v / 2 ^ 48 % 2 ^ 8 < 4) × (v / 2 ^ 56 < 2)))
  encoder_passed = four (v / 2 ^ 32 % 2 ^ 8) (v / 2 ^ 40 % 2 ^ 8) (v / 2 ^ 48 % 2 ^ 8) (v / 2 ^ 56) 32 64 4 2 h

  encoder_fits : FitsEncoder (encoder_of v)
  unfolding encoder_of
  encoder_fits = (wrap_small (pos v), encoder_passed.0, encoder_passed.1.0, encoder_passed.1.1.0)

pub encoder_number_lem : Number is_encoder encoder_number encoder_of FitsEncoder
unfolding encoder_number
encoder_number_lem = record {
  small = λ e f. digits_small (pattern e.count) e.cnfg e.stat e.pins (num e.seen) _ refl (pattern_lt e.count) f.1 f.2 f.3 (one e.seen);
  back = encoder_back;
  passes = λ e f. digits_pass (pattern e.count) e.cnfg e.stat e.pins (num e.seen) _ refl (pattern_lt e.count) f.1 f.2 f.3 (one e.seen);
  image = λ v s h. encoder_image v (encoder_passed v h).1.1.1;
  fits = λ v s h. encoder_fits v h;
}

-- ---- the I2C: six digits

phase_back : (p : Phase) → phase_of (state_of p) ≡ p
phase_back Idle = refl
phase_back TxIdle = refl
phase_back RxIdle = refl

state_image : (v : ℕ) → v < 3 → state_of (phase_of v) ≡ v
state_image zero h = refl
state_image (suc zero) h = refl
state_image (suc (suc zero)) h = refl
state_image (suc (suc (suc v))) h = absurd (omega arith)

other_large : (n : ℕ) (b : Bool) → ltb n 3 ≡ b → cond b 3 n < 3 → ⊥
other_large n true e h = omega (arith, h)
other_large n false e h = omega (arith, h, ltb-false n 3 e)

failure_back : (f : Option Failure) → failure_number f < 3 → failure_of (failure_number f) ≡ f
failure_back None h = refl
failure_back (Some Address) h = refl
failure_back (Some Data) h = refl
failure_back (Some (Other n)) h = absurd (other_large n (ltb n 3) refl h)

failure_image : (v : ℕ) → v < 3 → failure_number (failure_of v) ≡ v
failure_image zero h = refl
failure_image (suc zero) h = refl
failure_image (suc (suc zero)) h = refl
failure_image (suc (suc (suc v))) h = absurd (omega arith)

module _ (a b c d f g n : ℕ) (e : n ≡ a + 2 ^ 8 * b + 2 ^ 16 * c + 2 ^ 24 * d + 2 ^ 32 * f + 2 ^ 40 * g)
    (ha : a < 256) (hb : b < 16) (hc : c < 3) (hd : d < 2) (hf : f < 4) (hg : g < 3) where
  i2c_a : n % 2 ^ 8 ≡ a
  i2c_a = omega arith

  i2c_b : n / 2 ^ 8 % 2 ^ 8 ≡ b
  i2c_b = omega arith

  i2c_c : n / 2 ^ 16 % 2 ^ 8 ≡ c
  i2c_c = omega arith

  i2c_d : n / 2 ^ 24 % 2 ^ 8 ≡ d
  i2c_d = omega arith

  i2c_bit : n / 2 ^ 24 % 2 ≡ d
  i2c_bit = omega arith

  i2c_f : n / 2 ^ 32 % 2 ^ 8 ≡ f
  i2c_f = omega arith

  i2c_g : n / 2 ^ 40 ≡ g
  i2c_g = omega arith

  i2c_small : n < 256 ^ 8
  i2c_small = omega arith

  i2c_pass : is_i2c n ≡ true
  i2c_pass = rw (i2c_b, i2c_c, i2c_d, i2c_f, i2c_g, lt-ltb b 16 hb, lt-ltb c 3 hc, lt-ltb d 2 hd, lt-ltb f 4 hf, lt-ltb g 3 hg)

module _ (v : ℕ) (h : is_i2c v ≡ true) where
  i2c_first : (v / 2 ^ 8 % 2 ^ 8 < 16) × ((ltb (v / 2 ^ 16 % 2 ^ 8) 3 && (ltb (v / 2 ^ 24 % 2 ^ 8) 2 && (ltb (v / 2 ^ 32 % 2 ^ 8) 4 && ltb (v / 2 ^ 40) 3))) ≡ true)
  i2c_first = test (v / 2 ^ 8 % 2 ^ 8) 16 (ltb (v / 2 ^ 16 % 2 ^ 8) 3 && (ltb (v / 2 ^ 24 % 2 ^ 8) 2 && (ltb (v / 2 ^ 32 % 2 ^ 8) 4 && ltb (v / 2 ^ 40) 3))) h

  i2c_passed : (v / 2 ^ 16 % 2 ^ 8 < 3) × ((v / 2 ^ 24 % 2 ^ 8 < 2) × ((v / 2 ^ 32 % 2 ^ 8 < 4) × (v / 2 ^ 40 < 3)))
  i2c_passed = four (v / 2 ^ 16 % 2 ^ 8) (v / 2 ^ 24 % 2 ^ 8) (v / 2 ^ 32 % 2 ^ 8) (v / 2 ^ 40) 3 2 4 3 i2c_first.1

  i2c_fits : FitsI2c (i2c_of v)
  unfolding i2c_of
  i2c_fits =
      let last : v / 2 ^ 40 % 2 ^ 8 ≡ v / 2 ^ 40 = omega (arith, i2c_passed.1.1.1) in
      (omega arith, i2c_first.0, i2c_passed.1.1.0, rw (last, failure_image (v / 2 ^ 40) i2c_passed.1.1.1) i2c_passed.1.1.1)

i2c_image : (v : ℕ) → v / 2 ^ 16 % 2 ^ 8 < 3 → v / 2 ^ 24 % 2 ^ 8 < 2 → v / 2 ^ 40 < 3 → i2c_number (i2c_of v) ≡ v
unfolding i2c_number i2c_of
i2c_image v state bit top =
    let same : v / 2 ^ 24 % 2 ≡ v / 2 ^ 24 % 2 ^ 8 % 2 = omega arith in
    let last : v / 2 ^ 40 % 2 ^ 8 ≡ v / 2 ^ 40 = omega arith in
    rw (state_image (v / 2 ^ 16 % 2 ^ 8) state, same, num_bit (v / 2 ^ 24 % 2 ^ 8) bit, last, failure_image (v / 2 ^ 40) top, more v (2 ^ 8) (2 ^ 8) tt tt, more v (2 ^ 16) (2 ^ 8) tt tt, more v (2 ^ 24) (2 ^ 8) tt tt, more v (2 ^ 32) (2 ^ 8) tt tt)
    (omega arith)

module _ (c : I2c) (f : FitsI2c c) where
  abbrev number : ℕ
  number = c.addr + 2 ^ 8 * c.cntl + 2 ^ 16 * state_of c.phase + 2 ^ 24 * num c.acknowledged + 2 ^ 32 * c.answer + 2 ^ 40 * failure_number c.failure

  i2c_last : failure_of (number / 2 ^ 40 % 2 ^ 8) ≡ c.failure
  i2c_last =
      let g : number / 2 ^ 40 ≡ failure_number c.failure = i2c_g c.addr c.cntl (state_of c.phase) (num c.acknowledged) c.answer (failure_number c.failure) number refl f.0 f.1 (state_small c.phase) (one c.acknowledged) f.2 f.3 in
      let e : number / 2 ^ 40 % 2 ^ 8 ≡ failure_number c.failure = omega (arith, g, f.3) in
      rw e (failure_back c.failure f.3)

  i2c_back : i2c_of (i2c_number c) ≡ c
  unfolding i2c_number i2c_of
  i2c_back =
      let s = state_small c.phase in
      let o = one c.acknowledged in
      λ i. record {
        addr = i2c_a c.addr c.cntl (state_of c.phase) (num c.acknowledged) c.answer (failure_number c.failure) number refl f.0 f.1 s o f.2 f.3 i;
        cntl = i2c_b c.addr c.cntl (state_of c.phase) (num c.acknowledged) c.answer (failure_number c.failure) number refl f.0 f.1 s o f.2 f.3 i;
        phase = (ap phase_of (i2c_c c.addr c.cntl (state_of c.phase) (num c.acknowledged) c.answer (failure_number c.failure) number refl f.0 f.1 s o f.2 f.3) ∙ phase_back c.phase) i;
        acknowledged = is_one c.acknowledged (number / 2 ^ 24 % 2) (i2c_bit c.addr c.cntl (state_of c.phase) (num c.acknowledged) c.answer (failure_number c.failure) number refl f.0 f.1 s o f.2 f.3) i;
        answer = i2c_f c.addr c.cntl (state_of c.phase) (num c.acknowledged) c.answer (failure_number c.failure) number refl f.0 f.1 s o f.2 f.3 i;
        failure = i2c_last i;
      }

pub i2c_number_lem : Number is_i2c i2c_number i2c_of FitsI2c
unfolding i2c_number
i2c_number_lem = record {
  small = λ c f. i2c_small c.addr c.cntl (state_of c.phase) (num c.acknowledged) c.answer (failure_number c.failure) _ refl f.0 f.1 (state_small c.phase) (one c.acknowledged) f.2 f.3;
  back = i2c_back;
  passes = λ c f. i2c_pass c.addr c.cntl (state_of c.phase) (num c.acknowledged) c.answer (failure_number c.failure) _ refl f.0 f.1 (state_small c.phase) (one c.acknowledged) f.2 f.3;
  image = λ v s h. i2c_image v (i2c_passed v h).0 (i2c_passed v h).1.0 (i2c_passed v h).1.1.1;
  fits = λ v s h. i2c_fits v h;
}
