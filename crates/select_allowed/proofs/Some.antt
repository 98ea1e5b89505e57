-- A search for some number that passes a test, number by number.
-- Assumes nothing.
use mathlib.Core.Path.{◌≡◌, refl, ap, ◌∙◌}
use mathlib.Core.Bool.{Bool, true, false}
use Prim.Native.Nat.{ℕ, zero, suc, ◌<◌}
use native.Mathlib.Nat.{not-suc-le-zero}
use native.Mathlib.Omega.{arith}
use lib.Dec.{eqb}
use borrow.Author.Tests.{eqb-true, eqb-false}
use Rattle.laws.proofs.Truth.{neither, nor}
use Rattle.select_allowed.specs.Allowed.{some}

-- where none passes each fails, and the other way
pub none_below : (f : ℕ → Bool) (n : ℕ) → some f n ≡ false → (k : ℕ) → k < n → f k ≡ false
unfolding some
none_below f zero e k h = absurd (not-suc-le-zero h)
none_below f (suc n) e k h = let p = neither (some f n) (f n) e in go p.1 (none_below f n p.0 k) (eqb k n) refl
  where
    go : f n ≡ false → (k < n → f k ≡ false) → (b : Bool) → eqb k n ≡ b → f k ≡ false
    go last below true q = ap f (eqb-true k n q) ∙ last
    go last below false q = below (let d = eqb-false k n q in omega (arith, d))

pub all_fail : (f : ℕ → Bool) (n : ℕ) → ((k : ℕ) → k < n → f k ≡ false) → some f n ≡ false
unfolding some
all_fail f zero h = refl
all_fail f (suc n) h = nor (some f n) (f n) (all_fail f n (λ k l. h k (omega arith))) (h n (omega arith))
