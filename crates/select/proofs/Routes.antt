-- The routed PWM channels, all at once and one by one.
-- Assumes nothing.
use mathlib.Core.Path.{◌≡◌, refl, ap}
use mathlib.Core.Bool.{Bool, true, false}
use Prim.Native.Nat.{ℕ, zero, suc, ◌+◌, ◌*◌, ◌/◌, ◌%◌, ◌^◌, ◌≤◌, ◌<◌}
use native.Mathlib.Nat.{pow-suc, div-eq_of_lt}
use native.Mathlib.Omega.{arith}
use lib.Pow.{pow_mono}
use lib.Dec.{eqb}
use borrow.Author.Tests.{le-ltb}
use Rattle.bits.specs.Bits.{num}
use Rattle.select.specs.Select.{field_of, pwm_routed}
use Rattle.select_allowed.specs.How.{marks}
use Rattle.select_allowed.proofs.Marks.{mark}
use Rattle.select_allowed.proofs.Pins.{inside}
use Rattle.select.specs.How.{pwm_pins}

is_one : (b : Bool) → b ≡ eqb (num b) 1
is_one true = refl
is_one false = refl

-- a port has three
port_small : (select i : ℕ) → 3 ≤ i → pwm_pins true select / 2 ^ (2 * i) ≡ 0
port_small select i h =
    let far : 2 ^ 6 ≤ 2 ^ (2 * i) = pow_mono {i = 6} {j = 2 * i} (omega arith) in
    div-eq_of_lt (omega (arith, far))

second : (a b c : ℕ) → a < 2 → b < 2 → b ≡ (a + b * 4 + c * 16) / 4 % 2
second a b c h k = let e : (a + b * 4 + c * 16) / 4 ≡ b + c * 4 = omega arith in rw e (omega arith)

third : (a b c : ℕ) → a < 2 → b < 2 → c < 2 → c ≡ (a + b * 4 + c * 16) / 16 % 2
third a b c h k l = let e : (a + b * 4 + c * 16) / 16 ≡ c = omega arith in rw e (omega arith)

-- channel i is routed exactly if bit 2 i is 1
pub routed_bit : (port : Bool) (select i : ℕ) → i < 20 → pwm_routed port select i ≡ eqb (pwm_pins port select / 2 ^ (2 * i) % 2) 1
routed_bit true select zero h = let e : select / 4 % 2 ≡ pwm_pins true select / 1 % 2 = omega arith in ap (λ (n : ℕ). eqb n 1) e
routed_bit true select (suc zero) h =
    let e = second (select / 4 % 2) (select / 8 % 2) (select / 16 % 2) (omega arith) (omega arith) in ap (λ (n : ℕ). eqb n 1) e
routed_bit true select (suc (suc zero)) h =
    let e = third (select / 4 % 2) (select / 8 % 2) (select / 16 % 2) (omega arith) (omega arith) (omega arith) in ap (λ (n : ℕ). eqb n 1) e
routed_bit true select (suc (suc (suc i))) h = rw (port_small select (suc (suc (suc i))) (omega arith), le-ltb (suc (suc (suc i))) 3 (omega arith))
routed_bit false select i h = rw (mark (λ (v : ℕ). eqb v 1) 20 select i h, inside select i h) (is_one (eqb (field_of select i) 1))

fourfold : (n : ℕ) → 2 ^ (2 * n) * 4 ≡ 2 ^ (2 * suc n)
fourfold n =
    let e : 2 * suc n ≡ suc (suc (2 * n)) = omega arith in
    rw (e, pow-suc 2 (suc (2 * n)), pow-suc 2 (2 * n)) (omega arith)

marks_small : (f : ℕ → Bool) (n select : ℕ) → marks f n select < 2 ^ (2 * n)
unfolding marks
marks_small f zero select = omega arith
marks_small f (suc n) select = omega (arith, marks_small f n (select / 4), fourfold n, bit_small (f (select % 4)))
  where
    bit_small : (b : Bool) → num b ≤ 1
    bit_small true = omega arith
    bit_small false = omega arith

-- there are 20
pub pins_small : (port : Bool) (select i : ℕ) → 20 ≤ i → pwm_pins port select / 2 ^ (2 * i) ≡ 0
pins_small true select i h = port_small select i (omega arith)
pins_small false select i h =
    let far : 2 ^ 40 ≤ 2 ^ (2 * i) = pow_mono {i = 40} {j = 2 * i} (omega arith) in
    div-eq_of_lt (omega (arith, marks_small (λ (v : ℕ). eqb v 1) 20 select, far))
