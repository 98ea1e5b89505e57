-- The fact of specs/Facts.antt.
-- Assumes nothing.
use mathlib.Core.Path.{◌≡◌, sym, ap, ◌∙◌}
use mathlib.Core.Bool.{Bool, true, false, ◌&&◌}
use Prim.Native.Nat.{ℕ, ◌+◌, ◌*◌}
use native.Mathlib.Omega.{arith}
use lib.Dec.{eqb}
use borrow.Author.Tests.{eqb-true, ne_eqb}
use Rattle.laws.proofs.Truth.{both_true}
use Rattle.select.specs.Select.{field_of, encoder_routed, pwm_routed, i2c_routed}
use Rattle.select.specs.Facts.{Alone}

-- a pin has one use
one_use : (f m n : ℕ) → eqb f m ≡ true → (m ≡ n → ⊥) → eqb f n ≡ false
one_use f m n e d = ne_eqb f n (λ q. d (sym (eqb-true f m e) ∙ q))

other : (m n : ℕ) → (m ≡ n → ⊥) → (f g : ℕ) → (eqb f m && eqb g m) ≡ true → (eqb f n ≡ false) × (eqb g n ≡ false)
other m n d f g e = let h = both_true (eqb f m) (eqb g m) e in (one_use f m n h.0 d, one_use g m n h.1 d)

encoder_alone : (select i : ℕ) → encoder_routed false select i ≡ true → (pwm_routed false select (2 * i) ≡ false) × (pwm_routed false select (2 * i + 1) ≡ false)
encoder_alone select i e = other 2 1 (λ q. omega (arith, q)) (field_of select (2 * i)) (field_of select (2 * i + 1)) e

i2c_alone : (select : ℕ) → i2c_routed false select ≡ true → (pwm_routed false select 14 ≡ false) × (pwm_routed false select 15 ≡ false) × (encoder_routed false select 7 ≡ false)
i2c_alone select e =
    let p = other 3 1 (λ q. omega (arith, q)) (field_of select 14) (field_of select 15) e in
    let n = other 3 2 (λ q. omega (arith, q)) (field_of select 14) (field_of select 15) e in
    (p.0, p.1, ap (λ (b : Bool). b && eqb (field_of select 15) 2) n.0)

pub alone : (select : ℕ) → Alone select
alone select = record { encoder = encoder_alone select; i2c = i2c_alone select }
