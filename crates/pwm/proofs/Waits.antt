-- Many ticks at once, by either rule: the steps in them, and the ticks left over.
-- Assumes nothing.
use Rattle.std.proofs.Common.{◌≡◌, ℕ, zero, suc, ◌+◌, ◌-◌, ◌*◌, ◌/◌, ◌%◌, ◌^◌, ◌<◌, ◌≤◌, Bool, sym, refl, ap, ◌∙◌, mod-lt, suc-mul, suc-add, div-add-mod', zero-add, zero-mul, add-one, arith, pow_pos, pow_mono, le-ltb, lt-ltb, ne_eqb}
use native.Mathlib.Decide.{dec_le}
use Rattle.divider.specs.Divider.{divider_of}
use Rattle.divider.proofs.Powers.{power}
use Rattle.pwm.specs.declared.Registers.{Registers}
use Rattle.pwm.specs.declared.Wave.{Wave}
use Rattle.pwm.specs.declared.Pwm.{Pwm}
use Rattle.pwm.specs.Pwm.{stepped, ticked, waited, on_ticks}
use Rattle.pwm.specs.How.{at, left, moved, often, steps_of}
use Rattle.pwm.specs.Facts.{Short}

-- a wait in two parts
pub waited_add : (runs : Bool) (a b : ℕ) (g : Registers) (w : Wave) → waited runs (a + b) g w ≡ waited runs a g (waited runs b g w)
unfolding waited
waited_add runs zero b g w = rw (zero-add b)
waited_add runs (suc a) b g w = rw (suc-add a b) (ap (ticked runs g) (waited_add runs a b g w))

waited_off : (runs : Bool) (t : ℕ) (g : Registers) (w : Wave) → divider_of g.cs ≡ 0 → waited runs t g w ≡ w
unfolding waited ticked
waited_off runs zero g w e = refl
waited_off runs (suc t) g w e = rw e (waited_off runs t g w e)

-- "CS 0 is off"
pub stands : (runs : Bool) (t : ℕ) (p : Pwm) → p.registers.cs ≡ 0 → on_ticks runs t p ≡ p
stands runs t p e = ap (moved p) (waited_off runs t p.registers p.wave (ap divider_of e))

-- the steps look at no remainder
alike : (runs : Bool) (g : Registers) (w : Wave) (x q r : ℕ) → steps_of runs q r g (left x w) ≡ steps_of runs q r g w
unfolding often
alike runs g w x zero r = refl
alike runs g w x (suc q) r = ap (λ (v : Wave). left r (stepped runs g v)) (alike runs g w x q 0)

-- with N at hand
module _ (runs : Bool) (g : Registers) (n : ℕ) (divides : n ≡ divider_of g.cs) (on : 0 < n) where
  tick_more : (c r : ℕ) (o : Bool) → suc r < n → ticked runs g (at c r o) ≡ at c (suc r) o
  unfolding ticked
  tick_more c r o h = rw (← divides, ne_eqb n 0 (λ e. omega arith), add-one r, lt-ltb (suc r) n h)

  tick_full : (c r : ℕ) (o : Bool) → n ≤ r + 1 → ticked runs g (at c r o) ≡ stepped runs g (at c r o)
  unfolding ticked
  tick_full c r o h = rw (← divides, ne_eqb n 0 (λ e. omega arith), le-ltb (r + 1) n h)

  -- t ticks make q steps, and leave r
  counts : (w : Wave) → w.remainder < n → (t q r : ℕ) → q * n + r ≡ w.remainder + t → r < n → waited runs t g w ≡ steps_of runs q r g w
  unfolding waited often
  counts w k zero zero r e h =
      let z : r ≡ w.remainder = omega (arith, zero-mul n) in
      rw z
  counts w k zero (suc q) r e h = absurd (omega (arith, suc-mul q n))
  counts w k (suc t) zero zero e h = absurd (omega (arith, zero-mul n))
  counts w k (suc t) (suc q) zero e h =
      ap (ticked runs g) (counts w k t q (n - 1) (omega (arith, suc-mul q n)) (omega arith)) ∙ tick_full _ (n - 1) _ (omega arith)
  counts w k (suc t) q (suc r) e h = ap (ticked runs g) (counts w k t q r (omega arith) (omega arith)) ∙ tick_more _ r _ h

-- ---- what the code makes of t ticks

-- CS 0, whose place wraps, and what lies above 7
pub off : (runs : Bool) (q : Pwm) (place t : ℕ) → (place + 1) % 2 ^ 16 ≡ q.registers.cs → place < 2 ^ 16 → 6 < place → q ≡ on_ticks runs t q
off runs q place t e h k = ap (moved q) (sym (waited_off runs t q.registers q.wave (by (dec_le 1 q.registers.cs))))
  where
    by : Dec (1 ≤ q.registers.cs) → divider_of q.registers.cs ≡ 0
    by (yes l) = rw (le-ltb q.registers.cs 1 l, lt-ltb 7 q.registers.cs (omega arith))
    by (no l) = rw (lt-ltb q.registers.cs 1 (omega arith))

module _ (q : Pwm) (place t : ℕ) (on : place ≤ 6) (e : (place + 1) % 2 ^ 16 ≡ q.registers.cs) (short : Short q) (h : t < 2 ^ 32) where
  abbrev m : ℕ
  m = q.wave.remainder + t

  -- N of a place in the divider table is two to that power
  two : divider_of q.registers.cs ≡ 2 ^ place
  two =
      let z : q.registers.cs - 1 ≡ place = omega arith in
      rw (power q.registers.cs (omega arith) (omega arith), z)

  some : 0 < 2 ^ place
  some = pow_pos place

  whole : m / 2 ^ place * 2 ^ place + m % 2 ^ place ≡ m
  whole = div-add-mod' m (2 ^ place)

  few : 2 ^ place ≤ 2 ^ 6
  few = pow_mono on

  is_rest : m - m / 2 ^ place * 2 ^ place % 2 ^ 64 ≡ m % 2 ^ place
  is_rest = omega (arith, whole, two, few)

  pub wait : (runs : Bool) (p : Pwm) → p ≡ moved q (steps_of runs (m / 2 ^ place) (m - m / 2 ^ place * 2 ^ place % 2 ^ 64) q.registers q.wave) → p ≡ on_ticks runs t q
  wait runs p f =
      rw (f, is_rest)
      (ap (moved q) (sym (counts runs q.registers (2 ^ place) (sym two) some q.wave (omega (arith, two, some)) t _ (m % 2 ^ place) whole (mod-lt m some))))
