-- The facts of specs/Facts.antt.
-- Assumes nothing.
use Rattle.std.proofs.Common.{◌≡◌, ℕ, zero, suc, ◌+◌, ◌-◌, ◌<◌, ◌≤◌, Bool, true, false, cond, ◌&&◌, eqb, ltb, refl, ap, ◌∙◌, arith, ltb-true}
use mathlib.Core.Bool.{and-false}
use Rattle.laws.proofs.Cases.{cases, by_le}
use Rattle.divider.specs.Divider.{divider_of}
use Rattle.pwm.specs.declared.Registers.{Registers}
use Rattle.pwm.specs.declared.Wave.{Wave}
use Rattle.pwm.specs.Pwm.{mode, top_of, stepped, ticked, waited}
use Rattle.pwm.specs.How.{at, moved}
use Rattle.pwm.specs.Facts.{Always, Quiet, Short, Agree}

-- what a tick keeps where it only adds to the remainder, and where the counter steps, a wait keeps
module _ (runs : Bool) (g : Registers) (Holds : Wave → Type 0)
    (more : (w : Wave) → Holds w → w.remainder + 1 < divider_of g.cs → Holds (at w.counter (w.remainder + 1) w.output))
    (full : (w : Wave) → Holds w → Holds (stepped runs g w)) where
  tick : (w : Wave) → Holds w → (off on : Bool) → ltb (w.remainder + 1) (divider_of g.cs) ≡ on →
      Holds (cond off w (cond on (at w.counter (w.remainder + 1) w.output) (stepped runs g w)))
  tick w h true on e = h
  tick w h false true e = more w h (ltb-true _ _ e)
  tick w h false false e = full w h

  kept : (t : ℕ) (w : Wave) → Holds w → Holds (waited runs t g w)
  unfolding waited ticked
  kept zero w h = h
  kept (suc t) w h = tick (waited runs t g w) (kept t w h) (eqb (divider_of g.cs) 0) _ refl

-- a write of CNFG, or of another register
quiet_write : (b : Bool) (v : ℕ) (o : Bool) (old : ℕ) → (mode old ≡ false → o ≡ false)
    → mode (cond b v old) ≡ false → cond b (o && mode v) o ≡ false
quiet_write true v o old h m = ap (λ (b : Bool). o && b) m ∙ and-false o
quiet_write false v o old h m = h m

-- a write of CS, or of another register
short_write : (b : Bool) (v r old : ℕ) → r ≤ divider_of old - 1 → cond b 0 r ≤ divider_of (cond b v old) - 1
short_write true v r old h = omega arith
short_write false v r old h = h

pub quiet : Always Quiet
quiet = record {
  first = λ m. refl;
  writes = λ g v p h. quiet_write (eqb g 0) v p.wave.output p.registers.cnfg h;
  ticks = λ runs t p h. kept runs p.registers (λ (w : Wave). Quiet (moved p w)) (λ w k l. k) (λ w k m. rw m (k m)) t p.wave h;
}

pub short : Always Short
short = record {
  first = omega arith;
  writes = λ g v p h. short_write (eqb g 1) v p.wave.remainder p.registers.cs h;
  ticks = λ runs t p h. kept runs p.registers (λ (w : Wave). Short (moved p w)) (λ w k l. omega arith) (λ w k. omega arith) t p.wave h;
}

-- ---- the two rules

-- a counter that is not above MAX in MODE 1
abbrev Within : Registers → Wave → Type 0
Within g w = mode g.cnfg ≡ true → w.counter ≤ g.max

-- stays so, by paper 01's rule
within : (g : Registers) (w : Wave) → Within g w → Within g (stepped false g w)
within g w h e = rw e (by_le (λ (n : ℕ). n ≤ g.max) g.max w.counter (λ l. omega arith) (λ l. omega arith))

-- and its next step is that of both
same_top : (g : Registers) (w : Wave) → Within g w → (m : Bool) → mode g.cnfg ≡ m → top_of true g w.counter ≡ top_of false g w.counter
same_top g w h true e = let low : w.counter ≤ g.max = h e in search cases
same_top g w h false e = rw e

same_tick : (g : Registers) (w : Wave) → Within g w → ticked true g w ≡ ticked false g w
unfolding ticked
same_tick g w h = rw (same_top g w h (mode g.cnfg) refl)

same_wait : (g : Registers) (w : Wave) → Within g w → (t : ℕ) → waited true t g w ≡ waited false t g w
unfolding waited
same_wait g w h zero = refl
same_wait g w h (suc t) =
    ap (ticked true g) (same_wait g w h t) ∙ same_tick g (waited false t g w) (kept false g (Within g) (λ v k l. k) (within g) t w h)

pub agree : Agree
agree t p h = ap (moved p) (same_wait p.registers p.wave h t)
