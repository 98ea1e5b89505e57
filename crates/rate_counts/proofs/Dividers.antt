-- The dividers of the choices 1 to 7: at least 1, at most 64, and larger for a larger choice. Assumes nothing.
use mathlib.Core.Path.{◌≡◌, ap, ◌∙◌}
use Prim.Native.Nat.{ℕ, ◌+◌, ◌-◌, ◌*◌, ◌^◌, ◌≤◌, ◌<◌}
use native.Mathlib.Nat.{le_antisymm, mul-le-mul_left}
use native.Mathlib.Omega.{arith}
use native.Mathlib.Decide.{dec_le}
use lib.Pow.{pow_pos, pow_mono, pow-lt, pow-add}
use Rattle.divider.specs.Divider.{divider_of}
use Rattle.divider.proofs.Powers.{power}

pub some : (c : ℕ) → 1 ≤ c → c ≤ 7 → 0 < divider_of c
some c h l = rw (power c h l) (pow_pos (c - 1))

pub most : (c : ℕ) → 1 ≤ c → c ≤ 7 → divider_of c ≤ 64
most c h l = rw (power c h l) (pow_mono {i = c - 1} {j = 6} (omega arith))

pub grow : (c d : ℕ) → 1 ≤ c → c ≤ d → d ≤ 7 → divider_of c ≤ divider_of d
grow c d h s l = rw (power c h (omega arith), power d (omega arith) l) (pow_mono {i = c - 1} {j = d - 1} (omega arith))

-- each later one is the earlier times a power of two, and so at least twice it
pub times : (c d : ℕ) → 1 ≤ c → c ≤ d → d ≤ 7 → divider_of d ≡ divider_of c * 2 ^ (d - c)
times c d h s l =
    let e : d - 1 ≡ c - 1 + (d - c) = omega arith in
    rw (power c h (omega arith), power d (omega arith) l, e, pow-add 2 (c - 1) (d - c))

pub twice : (c d : ℕ) → 1 ≤ c → c < d → d ≤ 7 → 2 * divider_of c ≤ divider_of d
twice c d h s l =
    let g : divider_of c * 2 ≤ divider_of c * 2 ^ (d - c) = mul-le-mul_left (divider_of c) (pow_mono {i = 1} {j = d - c} (omega arith)) in
    omega (arith, times c d h (omega arith) l)

pub next : (c : ℕ) → 1 ≤ c → c < 7 → divider_of (c + 1) ≡ 2 * divider_of c
next c h l =
    let e : c + 1 - c ≡ 1 = omega arith in
    let g : divider_of (c + 1) ≡ divider_of c * 2 ^ (c + 1 - c) = times c (c + 1) h (omega arith) (omega arith) in
    omega (arith, g ∙ ap (λ (i : ℕ). divider_of c * 2 ^ i) e)

-- two choices of one divider are one
module _ (c d : ℕ) (hc : 1 ≤ c) (lc : c ≤ 7) (hd : 1 ≤ d) (ld : d ≤ 7) where
  no_less : divider_of c ≤ divider_of d → c ≤ d
  no_less t = by (dec_le c d)
    where
      by : Dec (c ≤ d) → c ≤ d
      by (yes y) = y
      by (no n) =
          let p : 2 ^ (c - 1) ≤ 2 ^ (d - 1) = rw (power c hc lc, power d hd ld) at t in
          omega (arith, pow-lt {i = d - 1} {j = c - 1} (omega arith))

pub one : (c d : ℕ) → 1 ≤ c → c ≤ 7 → 1 ≤ d → d ≤ 7 → divider_of c ≡ divider_of d → c ≡ d
one c d hc lc hd ld e = le_antisymm (no_less c d hc lc hd ld (omega arith)) (no_less d c hd ld hc lc (omega arith))
