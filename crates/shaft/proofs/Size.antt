-- The direction of a travel t from the counted steps s, where t + 4k = s + 2d. A whole number is `up` less `down`, two natural numbers of
-- which one is 0, so that the equation is one of natural numbers.
-- Assumes nothing.
use mathlib.Core.Path.{◌≡◌, refl, sym, ap, ◌∙◌}
use Prim.Native.Nat.{ℕ, zero, suc, ◌+◌, ◌*◌, ◌≤◌, ◌<◌}
use native.Mathlib.Omega.{arith}
use lib.IntN.{ℤ, pos, negsuc, nat_abs, ◌+ℤ◌, +ℤ_idr, +ℤ_invr, +ℤ_assoc, +ℤ_comm}
use Rattle.shaft.specs.Shaft.{forward, backward, direction}
use Rattle.shaft.proofs.Group.{lift}

abbrev pub up : ℤ → ℕ
up (pos n) = n
up (negsuc n) = 0

abbrev pub down : ℤ → ℕ
down (pos n) = 0
down (negsuc n) = suc n

raised : (z : ℤ) → z +ℤ pos (down z) ≡ pos (up z)
raised (pos n) = +ℤ_idr (pos n)
raised (negsuc n) = +ℤ_invr (negsuc n)

abbrev Even : ℤ → ℤ → ℕ → ℕ → Type 0
Even t s m n = up t + (m + down s) ≡ up s + (n + down t)

pub even : (t s : ℤ) (m n : ℕ) → t +ℤ pos m ≡ s +ℤ pos n → Even t s m n
even t s m n h =
    ap nat_abs
    (sym (ap (λ (z : ℤ). z +ℤ pos (m + down s)) (raised t))
    ∙ lift ◌+ℤ◌ +ℤ_assoc +ℤ_comm t (pos m) s (pos n) (pos (down t)) (pos (down s)) h
    ∙ ap (λ (z : ℤ). z +ℤ pos (n + down t)) (raised s))

-- the lesser of the two is 0
down_none : (z : ℤ) → down z ≤ up z → down z ≡ 0
down_none (pos n) h = refl
down_none (negsuc n) h = absurd (omega arith)

up_none : (z : ℤ) → up z ≤ down z → up z ≡ 0
up_none (pos n) h = omega arith
up_none (negsuc n) h = refl

sized : (z : ℤ) → nat_abs z ≡ up z + down z
sized (pos n) = omega arith
sized (negsuc n) = omega arith

goes_forward : (z : ℤ) → down z < up z → direction z ≡ forward
goes_forward (pos zero) h = absurd (omega arith)
goes_forward (pos (suc n)) h = refl
goes_forward (negsuc n) h = absurd (omega arith)

goes_back : (z : ℤ) → up z < down z → direction z ≡ backward
goes_back (pos n) h = absurd (omega arith)
goes_back (negsuc n) h = refl

module _ (d : ℕ) where
  -- steps beyond 2d have the direction of the travel
  pub beyond : (t s : ℤ) (k : ℕ) → k ≤ d → 2 * d < nat_abs s → Even t s (4 * k) (2 * d) → direction t ≡ direction s
  beyond t (pos zero) k h l e = absurd (omega arith)
  beyond (pos zero) (pos (suc b)) k h l e = absurd (omega arith)
  beyond (pos (suc a)) (pos (suc b)) k h l e = refl
  beyond (negsuc a) (pos (suc b)) k h l e = absurd (omega arith)
  beyond (pos zero) (negsuc b) k h l e = absurd (omega arith)
  beyond (pos (suc a)) (negsuc b) k h l e = absurd (omega arith)
  beyond (negsuc a) (negsuc b) k h l e = refl

  -- with no double back the travel is the steps and 2d, and with all back it is the steps less 2d
  module _ (t u s : ℤ) (high : Even t s 0 (2 * d)) (low : Even u s (4 * d) (2 * d)) where
    pub top : nat_abs s ≤ 2 * d → down t ≡ 0
    top h = down_none t (omega (arith, sized s))

    pub bottom : nat_abs s ≤ 2 * d → up u ≡ 0
    bottom h = up_none u (omega (arith, sized s))

    pub far : t ≡ u → d ≡ 0
    far e = omega (arith, ap up e, ap down e)

    pub ends : nat_abs s < 2 * d → (direction t ≡ forward) × (direction u ≡ backward)
    ends h = (goes_forward t (omega (arith, sized s)), goes_back u (omega (arith, sized s)))

-- where one does not go back and the other not forward, their directions are the same only if both stand still
pub same : (t u : ℤ) → down t ≡ 0 → up u ≡ 0 → direction t ≡ direction u → t ≡ u
same (pos zero) (pos zero) a b e = refl
same (pos zero) (pos (suc n)) a b e = cc
same (pos zero) (negsuc n) a b e = cc
same (pos (suc m)) (pos zero) a b e = cc
same (pos (suc m)) (pos (suc n)) a b e = absurd (omega arith)
same (pos (suc m)) (negsuc n) a b e = cc
same (negsuc m) u a b e = absurd (omega arith)

pub never_back : (t : ℤ) → down t ≡ 0 → direction t ≡ backward → ⊥
never_back t a e = omega (arith, ap down (same t (negsuc 0) a refl e))

pub never_forward : (u : ℤ) → up u ≡ 0 → direction u ≡ forward → ⊥
never_forward u a e = omega (arith, ap up (same (pos 1) u refl a (sym e)))
