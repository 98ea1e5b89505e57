-- The tests of all pins at once say what an allowed SELECT keeps.
-- Assumes nothing.
use mathlib.Core.Path.{◌≡◌, refl, sym, ap, ◌∙◌}
use mathlib.Core.Bool.{Bool, true, false, ◌&&◌, ◌||◌, true≢false, false≢true}
use Prim.Native.Nat.{ℕ, ◌+◌, ◌*◌, ◌<◌}
use native.Mathlib.Omega.{arith}
use lib.Dec.{eqb}
use lib.Bits.{bit_and}
use borrow.Author.Tests.{eqb-true, eq-eqb, ne_eqb}
use Rattle.laws.proofs.Truth.{both_true}
use Rattle.select_allowed.specs.Allowed.{field_of, some, three, allowed}
use Rattle.select_allowed.specs.How.{marks, threes, twos}
use Rattle.select_allowed.proofs.Marks.{same_pins, same_marks, double, pairs, alike, all_pairs}
use Rattle.select_allowed.proofs.Pins.{inside}
use Rattle.select_allowed.proofs.Means.{three_pin, Allowed, allowed_means}

iff : (a b : Bool) → (a ≡ true → b ≡ true) → (b ≡ true → a ≡ true) → a ≡ b
iff true b f g = sym (f refl)
iff false true f g = g refl
iff false false f g = refl

-- ---- the pins that are 3

-- two SELECTs whose pins 3 are the same
Alike : ℕ → ℕ → Type 0
Alike s t = (p : ℕ) → p < 20 → three s p ≡ three t p

threes_alike : (s t : ℕ) → threes s ≡ threes t → Alike s t
unfolding Alike
threes_alike s t e p h = rw (← inside s p h, ← inside t p h) (same_pins (λ (v : ℕ). eqb v 3) 20 s t e p h)

alike_threes : (s t : ℕ) → Alike s t → threes s ≡ threes t
unfolding Alike
alike_threes s t h = same_marks (λ (v : ℕ). eqb v 3) 20 s t (λ p l. rw (inside s p l, inside t p l) (h p l))

-- a pin of neither is not 3
stray : (s p : ℕ) → Allowed s → p < 20 → three_pin p ≡ false → three s p ≡ false
stray s p k h e = ne_eqb (field_of s p) 3 (λ q. true≢false (sym (k.threes p h q) ∙ e))

-- two that are allowed and agree on SPI and on I2C agree on all pins
agree : (s t : ℕ) → Allowed s → Allowed t → three s 5 ≡ three t 5 → three s 14 ≡ three t 14 → Alike s t
unfolding Alike
agree s t k l x y p h = by (eqb p 5) (eqb p 6) (eqb p 7) (eqb p 14) (eqb p 15) refl refl refl refl refl
  where
    on : (q : ℕ) → eqb p q ≡ true → three s q ≡ three t q → three s p ≡ three t p
    on q e z = rw (eqb-true p q e) z

    x₆ : three s 6 ≡ three t 6
    x₆ = sym k.spi.0 ∙ x ∙ l.spi.0

    by : (a b c d e : Bool) → eqb p 5 ≡ a → eqb p 6 ≡ b → eqb p 7 ≡ c → eqb p 14 ≡ d → eqb p 15 ≡ e → three s p ≡ three t p
    by true b c d e p₁ p₂ p₃ p₄ p₅ = on 5 p₁ x
    by false true c d e p₁ p₂ p₃ p₄ p₅ = on 6 p₂ x₆
    by false false true d e p₁ p₂ p₃ p₄ p₅ = on 7 p₃ (sym k.spi.1 ∙ x₆ ∙ l.spi.1)
    by false false false true e p₁ p₂ p₃ p₄ p₅ = on 14 p₄ y
    by false false false false true p₁ p₂ p₃ p₄ p₅ = on 15 p₅ (sym k.i2c ∙ y ∙ l.i2c)
    by false false false false false p₁ p₂ p₃ p₄ p₅ =
        let out : three_pin p ≡ false = rw (p₁, p₂, p₃, p₄, p₅) in
        stray s p k h out ∙ sym (stray t p l h out)

-- the SELECTs with pins 3 and nothing else: none, those of SPI, those of I2C, both
none : Allowed 0
unfolding field_of some
none = (allowed_means 0).means refl

spi : Allowed 64512
unfolding field_of some
spi = (allowed_means 64512).means refl

i2c : Allowed 4026531840
unfolding field_of some
i2c = (allowed_means 4026531840).means refl

both : Allowed 4026596352
unfolding field_of some
both = (allowed_means 4026596352).means refl

abbrev pub serial : ℕ → Bool
serial t = eqb t 0 || (eqb t 21504 || (eqb t 1342177280 || eqb t 1342198784))

-- one of the four that has the same pins
record Like (s : ℕ) : Type 0 where
  t : ℕ
  ok : Allowed t
  same : threes s ≡ threes t

like : (s : ℕ) → serial (threes s) ≡ true → Like s
unfolding marks
like s = by (eqb (threes s) 0) (eqb (threes s) 21504) (eqb (threes s) 1342177280) (eqb (threes s) 1342198784) refl refl refl refl
  where
    by : (a b c d : Bool) → eqb (threes s) 0 ≡ a → eqb (threes s) 21504 ≡ b → eqb (threes s) 1342177280 ≡ c → eqb (threes s) 1342198784 ≡ d
        → (a || (b || (c || d))) ≡ true → Like s
    by true b c d p q r u e = record { t = 0; ok = none; same = eqb-true _ _ p }
    by false true c d p q r u e = record { t = 64512; ok = spi; same = eqb-true _ _ q }
    by false false true d p q r u e = record { t = 4026531840; ok = i2c; same = eqb-true _ _ r }
    by false false false true p q r u e = record { t = 4026596352; ok = both; same = eqb-true _ _ u }
    by false false false false p q r u e = absurd (false≢true e)

serial_keeps : (s : ℕ) → Allowed s → serial (threes s) ≡ true
unfolding marks field_of
serial_keeps s k = by (three s 5) (three s 14) refl refl
  where
    to : (t : ℕ) → Allowed t → three s 5 ≡ three t 5 → three s 14 ≡ three t 14 → threes s ≡ threes t
    to t l x y = alike_threes s t (agree s t k l x y)

    by : (a b : Bool) → three s 5 ≡ a → three s 14 ≡ b → serial (threes s) ≡ true
    by false false x y = ap serial (to 0 none x y)
    by true false x y = ap serial (to 64512 spi x y)
    by false true x y = ap serial (to 4026531840 i2c x y)
    by true true x y = ap serial (to 4026596352 both x y)

-- ---- the pins that are 2

abbrev pub paired : ℕ → Bool
paired e = eqb (bit_and e 73300775185 * 5) e

paired_means : (s : ℕ) → paired (twos s) ≡ true → (i : ℕ) → i < 10 → eqb (field_of s (2 * i)) 2 ≡ eqb (field_of s (2 * i + 1)) 2
unfolding double pairs
paired_means s e i h =
    rw (← inside s (2 * i) (omega arith), ← inside s (2 * i + 1) (omega arith)) (alike (λ (v : ℕ). eqb v 2) 10 s (eqb-true _ _ e) i h)

paired_keeps : (s : ℕ) → Allowed s → paired (twos s) ≡ true
unfolding double pairs
paired_keeps s k =
    eq-eqb _ _ (all_pairs (λ (v : ℕ). eqb v 2) 10 s (λ i h. rw (inside s (2 * i) (omega arith), inside s (2 * i + 1) (omega arith)) (k.pairs i h)))

-- ---- both tests

means : (s : ℕ) → (serial (threes s) && paired (twos s)) ≡ true → Allowed s
unfolding Alike
means s e =
    let h = both_true _ _ e in
    let l = like s h.0 in
    let q = threes_alike s l.t l.same in
    record {
      threes = λ pin h z. l.ok.threes pin h (eqb-true _ _ (sym (q pin h) ∙ eq-eqb _ _ z));
      spi = (q 5 (omega arith) ∙ l.ok.spi.0 ∙ sym (q 6 (omega arith)), q 6 (omega arith) ∙ l.ok.spi.1 ∙ sym (q 7 (omega arith)));
      i2c = q 14 (omega arith) ∙ l.ok.i2c ∙ sym (q 15 (omega arith));
      pairs = paired_means s h.1;
    }

quick : (s t e : ℕ) → t ≡ threes s → e ≡ twos s → (serial t && paired e) ≡ allowed false s
quick s t e p q =
    rw (p, q)
    (iff (serial (threes s) && paired (twos s)) (allowed false s)
    (λ z. (allowed_means s).suffices (means s z))
    (λ z. let k = (allowed_means s).means z in rw (serial_keeps s k, paired_keeps s k)))

pub pins_allowed : (port : Bool) (s t e : ℕ) → port ≡ false → t ≡ threes s → e ≡ twos s → (serial t && paired e) ≡ allowed port s
pins_allowed port s t e p q r = quick s t e q r ∙ ap (λ (b : Bool). allowed b s) (sym p)
