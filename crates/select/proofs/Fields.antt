-- The pins of a SELECT two by two, and what a routing turns on.
-- Assumes nothing.
use mathlib.Core.Path.{◌≡◌, refl}
use mathlib.Core.Bool.{Bool, true, false, ◌&&◌}
use Prim.Native.Nat.{ℕ, suc, ◌+◌, ◌*◌, ◌/◌, ◌%◌, ◌^◌, ◌<◌, ◌≤◌}
use native.Mathlib.Nat.{div-div-eq-div-mul}
use native.Mathlib.Omega.{arith}
use borrow.Author.Tests.{le-ltb, eq-eqb, ne_eqb, eqb-true, eqb-false}
use lib.Dec.{eqb}
use lib.Arith.{mod-mul}
use Rattle.select_allowed.proofs.Pins.{inside}
use Rattle.select.specs.Select.{field_of, encoder_routed, pwm_routed, i2c_routed}

-- two neighbouring fields of two bits make four bits
four : (x : ℕ) → x % 16 ≡ x / 4 % 4 * 4 + x % 4
four x = mod-mul x {m = 4} {c = 4} (omega arith) (omega arith)

-- they are n twice exactly if both are n
twice : (h l n : ℕ) → l < 4 → n < 4 → (p q : Bool) → eqb l n ≡ p → eqb h n ≡ q → eqb (h * 4 + l) (5 * n) ≡ (p && q)
twice h l n k m true true p q = eq-eqb (h * 4 + l) (5 * n) (omega (arith, eqb-true l n p, eqb-true h n q))
twice h l n k m true false p q = ne_eqb (h * 4 + l) (5 * n) (λ e. eqb-false h n q (omega (arith, eqb-true l n p)))
twice h l n k m false b p q = ne_eqb (h * 4 + l) (5 * n) (λ e. eqb-false l n p (omega arith))

pub past : (select pin : ℕ) → 20 ≤ pin → field_of select pin ≡ 0
unfolding field_of
past select pin h = rw (le-ltb pin 20 h)

next : (select pin : ℕ) → select / 2 ^ (2 * pin) / 4 ≡ select / 2 ^ (2 * (pin + 1))
next select pin =
    let up : 2 * (pin + 1) ≡ suc (suc (2 * pin)) = omega arith in
    let power : 2 ^ (2 * pin) * 4 ≡ 2 ^ suc (suc (2 * pin)) = omega arith in
    rw (up, ← power) (div-div-eq-div-mul select (2 ^ (2 * pin)) 4)

pub two_pins : (select pin n : ℕ) → pin + 1 < 20 → n < 4 → eqb (select / 2 ^ (2 * pin) % 16) (5 * n) ≡ (eqb (field_of select pin) n && eqb (field_of select (pin + 1)) n)
two_pins select pin n h k =
    let x = select / 2 ^ (2 * pin) in
    rw (← inside select pin (omega arith), ← inside select (pin + 1) h, ← next select pin, four x)
    (twice (x / 4 % 4) (x % 4) n (omega arith) k _ _ refl refl)

pub pair_routed : (select i : ℕ) → i < 10 → eqb (select / 2 ^ (4 * i) % 16) 10 ≡ encoder_routed false select i
pair_routed select i h = let e : 4 * i ≡ 2 * (2 * i) = omega arith in rw e (two_pins select (2 * i) 2 (omega arith) (omega arith))

pub i2c_pins : (select : ℕ) → eqb (select / 2 ^ 28 % 16) 15 ≡ i2c_routed false select
i2c_pins select = two_pins select 14 3 (omega arith) (omega arith)

pub no_pair : (select i : ℕ) → 10 ≤ i → false ≡ encoder_routed false select i
no_pair select i h = rw (past select (2 * i) (omega arith))

-- a routing turns on its own pins alone
module _ (s t : ℕ) where
  pub encoder_by_pins : (i : ℕ) → field_of s (2 * i) ≡ field_of t (2 * i) → field_of s (2 * i + 1) ≡ field_of t (2 * i + 1) → encoder_routed false s i ≡ encoder_routed false t i
  encoder_by_pins i p q = rw (p, q)

  pub pwm_by_pin : (i : ℕ) → field_of s i ≡ field_of t i → pwm_routed false s i ≡ pwm_routed false t i
  pwm_by_pin i p = rw p

  pub i2c_by_pins : field_of s 14 ≡ field_of t 14 → field_of s 15 ≡ field_of t 15 → i2c_routed false s ≡ i2c_routed false t
  i2c_by_pins p q = rw (p, q)
