-- The four clauses of refusal 10 the other way round, and of any pin and any pair: what an allowed SELECT keeps.
-- Assumes nothing.
use mathlib.Core.Path.{◌≡◌, refl, ap}
use mathlib.Core.Bool.{Bool, true, false, not, ◌&&◌, ◌||◌, true≢false}
use Prim.Native.Nat.{ℕ, ◌+◌, ◌*◌, ◌<◌}
use lib.Dec.{eqb}
use borrow.Author.Tests.{eqb-true, eq-eqb, not-true, not-false}
use Rattle.laws.proofs.Truth.{neither, nor, same, same_not}
use Rattle.bits.specs.Bits.{changes}
use Rattle.select_allowed.specs.Allowed.{field_of, three, two, allowed}
use Rattle.select_allowed.proofs.Some.{none_below, all_fail}

-- the pins that may be 3
abbrev pub three_pin : ℕ → Bool
three_pin pin = eqb pin 5 || (eqb pin 6 || (eqb pin 7 || (eqb pin 14 || eqb pin 15)))

abbrev strays : ℕ → ℕ → Bool
strays select pin = three select pin && not (three_pin pin)

abbrev halves : ℕ → ℕ → Bool
halves select i = changes (two select (2 * i)) (two select (2 * i + 1))

pub record Allowed (select : ℕ) : Type 0 where
  pub threes : (pin : ℕ) → pin < 20 → field_of select pin ≡ 3 → three_pin pin ≡ true
  pub spi : (three select 5 ≡ three select 6) × (three select 6 ≡ three select 7)
  pub i2c : three select 14 ≡ three select 15
  pub pairs : (i : ℕ) → i < 10 → two select (2 * i) ≡ two select (2 * i + 1)

-- refusal 10 is given exactly if one of them is broken
pub record AllowedMeans (select : ℕ) : Type 0 where
  pub means : allowed false select ≡ true → Allowed select
  pub suffices : Allowed select → allowed false select ≡ true

split_none : (a b c : Bool) → ((a || (b || c)) && not (a && (b && c))) ≡ false → (a ≡ b) × (b ≡ c)
split_none true true true e = (refl, refl)
split_none true true false e = absurd (true≢false e)
split_none true false c e = absurd (true≢false e)
split_none false true c e = absurd (true≢false e)
split_none false false true e = absurd (true≢false e)
split_none false false false e = (refl, refl)

none_split : (a b c : Bool) → a ≡ b → b ≡ c → ((a || (b || c)) && not (a && (b && c))) ≡ false
none_split a b true p q = rw (p, q)
none_split a b false p q = rw (p, q)

two_none : (a b : Bool) → ((a || b) && not (a && b)) ≡ false → a ≡ b
two_none true true e = refl
two_none true false e = absurd (true≢false e)
two_none false true e = absurd (true≢false e)
two_none false false e = refl

none_two : (a b : Bool) → a ≡ b → ((a || b) && not (a && b)) ≡ false
none_two a true p = rw p
none_two a false p = rw p

stray_none : (select pin : ℕ) → strays select pin ≡ false → field_of select pin ≡ 3 → three_pin pin ≡ true
stray_none select pin e q = not-false (three_pin pin) (rw (eq-eqb (field_of select pin) 3 q) at e)

none_stray : (select pin : ℕ) → (field_of select pin ≡ 3 → three_pin pin ≡ true) → (b : Bool) → eqb (field_of select pin) 3 ≡ b → (b && not (three_pin pin)) ≡ false
none_stray select pin h true e = ap not (h (eqb-true (field_of select pin) 3 e))
none_stray select pin h false e = refl

pub allowed_means : (select : ℕ) → AllowedMeans select
allowed_means select = record { means = means; suffices = suffices }
  where
    means : allowed false select ≡ true → Allowed select
    means e =
        let a = neither _ _ (not-true _ e) in
        let b = neither _ _ a.1 in
        let c = neither _ _ b.1 in
        record {
          threes = λ pin h q. stray_none select pin (none_below (strays select) 20 a.0 pin h) q;
          spi = split_none _ _ _ b.0;
          i2c = two_none _ _ c.0;
          pairs = λ i h. same _ _ (none_below (halves select) 10 c.1 i h);
        }

    suffices : Allowed select → allowed false select ≡ true
    suffices k =
        ap not
        (nor _ _ (all_fail (strays select) 20 (λ pin h. none_stray select pin (k.threes pin h) _ refl))
        (nor _ _ (none_split _ _ _ k.spi.0 k.spi.1)
        (nor _ _ (none_two _ _ k.i2c) (all_fail (halves select) 10 (λ i h. same_not _ _ (k.pairs i h))))))
