-- What the code makes of numbers.
-- Assumes nothing.
use mathlib.Core.Path.{◌≡◌, refl, sym, ◌∙◌}
use mathlib.Core.Bool.{Bool, true, false, ◌&&◌}
use Prim.Native.Nat.{ℕ, zero, suc, ◌*◌, ◌-◌, ◌/◌, ◌%◌, ◌^◌, ◌<◌, ◌≤◌}
use native.Mathlib.Omega.{arith}
use lib.Dec.{eqb, ltb, leb, leb→le}
use lib.ListN.{replicate}
use borrow.Author.Tests.{ltb-true, ltb-false, leb-true, leb-false, eq-eqb, ne_eqb}
use Rattle.laws.proofs.Truth.{both_true}
use Rattle.laws.proofs.Table.{at}
use Rattle.divider.specs.Divider.{divider_of}
use Rattle.records.specs.Record.{pwm_cnfg}
use Rattle.image_pwm.specs.How.{registers_of, wave_of, pwm_of, is_registers, is_short, is_quick}

-- 0, 1, 4 and 5 are the numbers below 8 whose bit 1 is 0
cnfg_tested : (v : ℕ) → (ltb v 8 && eqb (v / 2 % 2) 0) ≡ pwm_cnfg v
cnfg_tested v = by (ltb v 8) refl
  where
    eight : (n : ℕ) → n < 8 → (ltb n 8 && eqb (n / 2 % 2) 0) ≡ pwm_cnfg n
    eight zero h = refl
    eight (suc zero) h = refl
    eight (suc (suc zero)) h = refl
    eight (suc (suc (suc zero))) h = refl
    eight (suc (suc (suc (suc zero)))) h = refl
    eight (suc (suc (suc (suc (suc zero))))) h = refl
    eight (suc (suc (suc (suc (suc (suc zero)))))) h = refl
    eight (suc (suc (suc (suc (suc (suc (suc zero))))))) h = refl
    eight (suc (suc (suc (suc (suc (suc (suc (suc n)))))))) h = absurd (omega arith)

    by : (b : Bool) → ltb v 8 ≡ b → (ltb v 8 && eqb (v / 2 % 2) 0) ≡ pwm_cnfg v
    by true e = eight v (ltb-true v 8 e)
    by false e =
        let h = ltb-false v 8 e in
        rw (e, ne_eqb v 0 (λ x. omega arith), ne_eqb v 1 (λ x. omega arith), ne_eqb v 4 (λ x. omega arith), ne_eqb v 5 (λ x. omega arith))

pub cnfg_small : (v : ℕ) → pwm_cnfg v ≡ true → v < 8
cnfg_small v h = ltb-true v 8 (both_true (ltb v 8) (eqb (v / 2 % 2) 0) (cnfg_tested v ∙ h)).0

-- ---- the remainder is below N

module _ (r k m : ℕ) where
  same : (r ≤ k → r * 2 / m ≡ 0) → (k < r → r * 2 / m ≡ 0 → ⊥) → leb r k ≡ eqb (r * 2 / m) 0
  same h l = by (leb r k) refl
    where
      by : (b : Bool) → leb r k ≡ b → b ≡ eqb (r * 2 / m) 0
      by true e = sym (eq-eqb (r * 2 / m) 0 (h (leb-true r k e)))
      by false e = sym (ne_eqb (r * 2 / m) 0 (l (leb-false r k e)))

short_tested : (cs r : ℕ) → cs < 8 → leb r (divider_of cs - 1) ≡ eqb (r * 2 / 2 ^ cs) 0
short_tested zero r h = same r 0 1 (λ l. omega arith) (λ l e. omega arith)
short_tested (suc zero) r h = same r 0 2 (λ l. omega arith) (λ l e. omega arith)
short_tested (suc (suc zero)) r h = same r 1 4 (λ l. omega arith) (λ l e. omega arith)
short_tested (suc (suc (suc zero))) r h = same r 3 8 (λ l. omega arith) (λ l e. omega arith)
short_tested (suc (suc (suc (suc zero)))) r h = same r 7 16 (λ l. omega arith) (λ l e. omega arith)
short_tested (suc (suc (suc (suc (suc zero))))) r h = same r 15 32 (λ l. omega arith) (λ l e. omega arith)
short_tested (suc (suc (suc (suc (suc (suc zero)))))) r h = same r 31 64 (λ l. omega arith) (λ l e. omega arith)
short_tested (suc (suc (suc (suc (suc (suc (suc zero))))))) r h = same r 63 128 (λ l. omega arith) (λ l e. omega arith)
short_tested (suc (suc (suc (suc (suc (suc (suc (suc cs)))))))) r h = absurd (omega arith)

pub quick_short : (v w : ℕ) → is_registers v ≡ true → is_short (pwm_of v w) ≡ is_quick v w
unfolding is_short registers_of wave_of
quick_short v w h =
    let low : v / 2 ^ 48 < 8 = ltb-true (v / 2 ^ 48) 8 (both_true (pwm_cnfg (v / 2 ^ 32 % 2 ^ 16)) (ltb (v / 2 ^ 48) 8) h).1 in
    let same-cs : v / 2 ^ 48 % 64 ≡ v / 2 ^ 48 = omega arith in
    rw same-cs (short_tested (v / 2 ^ 48) (w / 2 ^ 16 % 2 ^ 8) low)

-- N is at most 64
divider_at : ℕ → ℕ → Bool
divider_at cs x = leb (divider_of cs) 64

pub divider_small : (cs : ℕ) → cs < 8 → divider_of cs ≤ 64
unfolding divider_at
divider_small cs h = leb→le (divider_of cs) 64 (at divider_at (replicate 8 0) tt cs h)
