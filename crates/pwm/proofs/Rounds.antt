-- Many steps of the counter at once, by either rule: up to the top, to 0, and from there whole rounds and what is left.
-- Assumes nothing.
use Rattle.std.proofs.Common.{◌≡◌, ℕ, zero, suc, ◌+◌, ◌-◌, ◌*◌, ◌/◌, ◌%◌, ◌^◌, ◌<◌, ◌≤◌, Bool, true, false, cond, not, ◌&&◌, eqb, ltb, leb, sym, refl, ap, ◌∙◌, add-zero, add-suc, mod-lt, suc-mul, suc-add, div-add-mod', zero-add, zero-mul, add-one, arith, le-ltb, lt-ltb, eq-eqb, ne_eqb, le-leb}
use mathlib.Core.Bool.{and-false}
use native.Mathlib.Decide.{dec_le}
use borrow.Author.Tests.{lt-leb}
use Rattle.pwm.specs.declared.Registers.{Registers}
use Rattle.pwm.specs.declared.Wave.{Wave}
use Rattle.pwm.specs.declared.Pwm.{Pwm}
use Rattle.pwm.specs.Pwm.{mode, top_of, stepped}
use Rattle.pwm.specs.How.{inv, at, left, moved, often, steps_of, climbed, wrapped, until_zero}

-- ---- a step, by where the counter stands

-- MODE 1: the top is MAX, but for a counter above it that runs on
module _ (runs : Bool) (g : Registers) (c : ℕ) (e : mode g.cnfg ≡ true) where
  top_max : c ≤ g.max → top_of runs g c ≡ g.max
  top_max h =
      ap (λ (t : Bool). cond (mode g.cnfg && not (runs && t)) g.max 65535) (le-ltb g.max c h)
      ∙ rw (e, and-false runs)

  top_off : runs ≡ false → top_of runs g c ≡ g.max
  top_off z = rw (e, z)

  top_on : runs ≡ true → g.max < c → top_of runs g c ≡ 65535
  top_on z h = rw (e, z, lt-ltb g.max c h)

module _ (runs : Bool) (g : Registers) (c r : ℕ) (o : Bool) where
  -- MODE 0
  step_low : mode g.cnfg ≡ false → c < 65536 → stepped runs g (at c r o) ≡ at ((c + 1) % 65536) 0 o
  step_low e h = by (dec_le 65535 c)
    where
      by : Dec (65535 ≤ c) → stepped runs g (at c r o) ≡ at ((c + 1) % 65536) 0 o
      by (yes k) =
          let z : (c + 1) % 65536 ≡ 0 = omega arith in
          rw (z, e, le-leb 65535 c k)
      by (no k) =
          let z : (c + 1) % 65536 ≡ c + 1 = omega arith in
          rw (z, e, lt-leb 65535 c (omega arith))

  -- MODE 1, below the top
  step_up : mode g.cnfg ≡ true → c < top_of runs g c →
      stepped runs g (at c r o) ≡ at (suc c) 0 (cond (eqb (suc c) g.cmp) (inv g.cnfg) o)
  step_up e h = rw (lt-leb (top_of runs g c) c h, e, add-one c, ne_eqb (suc c) 0 (λ z. omega arith))

  -- MODE 1, at the top or above it
  step_over : mode g.cnfg ≡ true → top_of runs g c ≤ c → stepped runs g (at c r o) ≡ wrapped g 0 0
  step_over e h = rw (le-leb (top_of runs g c) c h, e) (by (dec_le g.cmp 0))
    where
      by : Dec (g.cmp ≤ 0) → at 0 0 (cond (eqb 0 g.cmp) (inv g.cnfg) (not (inv g.cnfg))) ≡ wrapped g 0 0
      by (yes k) = rw (eq-eqb 0 g.cmp (omega arith), le-leb g.cmp 0 k)
      by (no k) = rw (ne_eqb 0 g.cmp (λ z. omega arith), lt-leb g.cmp 0 (omega arith))

-- ---- many steps

-- one place more, of a way up on which CMP was met by n: CMP is that place, or not
module _ (b : Bool) (x n : ℕ) (i o : Bool) (h : x ≡ suc n → b ≡ true) where
  met : cond (eqb (suc n) x) i (cond (b && leb x n) i o) ≡ cond (b && leb x (suc n)) i o
  met = by (dec_le x n) (dec_le x (suc n))
    where
      by : Dec (x ≤ n) → Dec (x ≤ suc n) → cond (eqb (suc n) x) i (cond (b && leb x n) i o) ≡ cond (b && leb x (suc n)) i o
      by (yes k) l = rw (ne_eqb (suc n) x (λ e. omega arith), le-leb x n k, le-leb x (suc n) (omega arith))
      by (no k) (yes l) = rw (eq-eqb (suc n) x (omega arith), h (omega arith), le-leb x (suc n) l)
      by (no k) (no l) = rw (ne_eqb (suc n) x (λ e. omega arith), lt-leb x n (omega arith), lt-leb x (suc n) (omega arith))

-- on a way with no length CMP is not met
unmet : (c x : ℕ) (i o : Bool) → cond (ltb c x && leb x c) i o ≡ o
unmet c x i o = by (dec_le x c)
  where
    by : Dec (x ≤ c) → cond (ltb c x && leb x c) i o ≡ o
    by (yes h) = rw (le-ltb c x h)
    by (no h) = rw (lt-leb x c (omega arith), and-false (ltb c x))

often_add : (runs : Bool) (a b : ℕ) (g : Registers) (w : Wave) → often runs (a + b) g w ≡ often runs a g (often runs b g w)
unfolding often
often_add runs zero b g w = rw (zero-add b)
often_add runs (suc a) b g w = rw (suc-add a b) (ap (stepped runs g) (often_add runs a b g w))

-- one step more; it looks at no remainder
further : (runs : Bool) (g : Registers) (r : ℕ) {v w x : Wave} → v ≡ w → stepped runs g w ≡ x → left r (stepped runs g v) ≡ left r x
further runs g r e f = ap (λ (w : Wave). left r (stepped runs g w)) e ∙ ap (left r) f

-- how far the way up goes
module _ (runs : Bool) (g : Registers) (c s : ℕ) (e : mode g.cnfg ≡ true) where
  -- where there is a step up, the top is not reached yet
  until_room : suc s < until_zero runs c g.max → c + s < top_of runs g (c + s)
  until_room h = by runs (dec_le c g.max) refl
    where
      by : (b : Bool) → Dec (c ≤ g.max) → runs ≡ b → c + s < top_of runs g (c + s)
      by b (yes k) z =
          let below : c + s < g.max = omega (arith, rw (le-ltb g.max c k) at h) in
          rw (top_max runs g (c + s) e (omega arith)) below
      by true (no k) z =
          let below : c + s < 65535 = omega (arith, rw (z, lt-ltb g.max c (omega arith)) at h) in
          rw (top_on runs g (c + s) e z (omega arith)) below
      by false (no k) z = absurd (omega (arith, rw (z, lt-ltb g.max c (omega arith)) at h))

  -- where there is none, it is
  until_top : c < 65536 → suc s ≡ until_zero runs c g.max → top_of runs g (c + s) ≤ c + s
  until_top l h = by runs (dec_le c g.max) refl
    where
      by : (b : Bool) → Dec (c ≤ g.max) → runs ≡ b → top_of runs g (c + s) ≤ c + s
      by b (yes k) z =
          let there : c + s ≡ g.max = omega (arith, rw (le-ltb g.max c k) at h) in
          rw (top_max runs g (c + s) e (omega arith)) (omega arith)
      by true (no k) z =
          let there : c + s ≡ 65535 = omega (arith, rw (z, lt-ltb g.max c (omega arith)) at h) in
          rw (top_on runs g (c + s) e z (omega arith)) (omega arith)
      by false (no k) z = rw (top_off runs g (c + s) e z) (omega arith)

module _ (runs : Bool) (g : Registers) (w : Wave) where
  abbrev c : ℕ
  c = w.counter

  steps_low : mode g.cnfg ≡ false → c < 65536 → (s r : ℕ) → steps_of runs s r g w ≡ at ((c + s) % 65536) r w.output
  unfolding often
  steps_low e h zero r =
      let z : (c + 0) % 65536 ≡ c = omega arith in
      rw z
  steps_low e h (suc s) r =
      let z : (c + suc s) % 65536 ≡ ((c + s) % 65536 + 1) % 65536 = omega arith in
      rw z (further runs g r (steps_low e h s 0) (step_low runs g _ 0 _ e (omega arith)))

  steps_up : mode g.cnfg ≡ true → (s r : ℕ) → s < until_zero runs c g.max → steps_of runs s r g w ≡ climbed g (c + s) r w
  unfolding often
  steps_up e zero r h = rw (add-zero c, unmet c g.cmp (inv g.cnfg) w.output)
  steps_up e (suc s) r h =
      rw (add-suc c s)
      (further runs g r (steps_up e s 0 (omega arith)) (step_up runs g _ 0 _ e (until_room runs g c s e h)) ∙
      ap (at _ r) (met (ltb c g.cmp) g.cmp (c + s) (inv g.cnfg) w.output (λ z. lt-ltb c g.cmp (omega arith))))

module _ (runs : Bool) (g : Registers) (e : mode g.cnfg ≡ true) where
  -- from 0, q whole rounds and k places
  round : (m q k r : ℕ) → m ≡ q * suc g.max + k → k ≤ g.max → steps_of runs m r g (wrapped g 0 0) ≡ wrapped g k r
  unfolding often
  round zero q zero r s h = refl
  round zero q (suc k) r s h = absurd (omega arith)
  round (suc m) zero zero r s h = absurd (omega (arith, zero-mul (suc g.max)))
  round (suc m) (suc q) zero r s h =
      further runs g r (round m q g.max 0 (omega (arith, suc-mul q (suc g.max))) (omega arith))
      (step_over runs g _ 0 _ e (omega (arith, top_max runs g g.max e (omega arith))))
  round (suc m) q (suc k) r s h =
      further runs g r (round m q k 0 (omega arith) (omega arith)) (step_up runs g k 0 _ e (omega (arith, top_max runs g k e (omega arith)))) ∙
      ap (at (suc k) r) (met true g.cmp k (inv g.cnfg) _ (λ z. refl))

  -- m steps after the counter has gone to 0
  after : (w : Wave) (a m r : ℕ) → often runs a g w ≡ wrapped g 0 0 → steps_of runs (m + a) r g w ≡ wrapped g (m % (g.max + 1)) r
  after w a m r z =
      let n = suc g.max in
      let k : m % n < n = mod-lt m (omega arith) in
      rw (often_add runs m a g w, z, add-one g.max) (round m (m / n) (m % n) r (sym (div-add-mod' m n)) (omega arith))

-- ---- what the code makes of s steps

-- there is always a step to 0
some_steps : (runs : Bool) (c max : ℕ) → c < 65536 → 0 < until_zero runs c max
some_steps runs c max h = by runs (dec_le c max) refl
  where
    by : (b : Bool) → Dec (c ≤ max) → runs ≡ b → 0 < until_zero runs c max
    by b (yes k) z = rw (le-ltb max c k) (omega arith)
    by true (no k) z = rw (z, lt-ltb max c (omega arith)) (omega arith)
    by false (no k) z = rw (z, lt-ltb max c (omega arith)) (omega arith)

module _ (runs : Bool) (q p : Pwm) (s r : ℕ) where
  abbrev g : Registers
  g = q.registers

  abbrev w : Wave
  w = q.wave

  abbrev Stepped : Type 0
  Stepped = p ≡ moved q (steps_of runs s r g w)

  pub low : (b : Bool) (k : ℕ) → b ≡ mode g.cnfg → b ≡ false → w.counter < 2 ^ 16 →
      k ≡ (w.counter + s % 65536) % 2 ^ 16 → p ≡ moved q (at k r w.output) → Stepped
  low b k m z h e f =
      let same : k ≡ (w.counter + s) % 65536 = omega arith in
      f ∙ ap (moved q) (ap (λ (x : ℕ). at x r w.output) same ∙ sym (steps_low runs g w (sym m ∙ z) h s r))

  module _ (m : mode g.cnfg ≡ true) (room : ℕ) (u : room ≡ until_zero runs w.counter g.max) where
    pub up : s < room → p ≡ moved q (climbed g (w.counter + s) r w) → Stepped
    up h f = f ∙ ap (moved q) (sym (steps_up runs g w m s r (rw u at h)))

    at_zero : w.counter < 2 ^ 16 → often runs room g w ≡ wrapped g 0 0
    unfolding often
    at_zero l =
        let far = room - 1 in
        let steps : room ≡ suc far = omega (arith, u, some_steps runs w.counter g.max l) in
        let last : suc far ≡ until_zero runs w.counter g.max = sym steps ∙ u in
        rw steps
        (ap (stepped runs g) (steps_up runs g w m far 0 (omega (arith, last))) ∙ step_over runs g _ 0 _ m (until_top runs g w.counter far m l last))

    pub over : w.counter < 2 ^ 16 → room ≤ s → p ≡ moved q (wrapped g ((s - room) % (g.max + 1)) r) → Stepped
    over l h f =
        let all : s - room + room ≡ s = omega arith in
        f ∙ ap (moved q) (rw all at (sym (after runs g m w room (s - room) r (at_zero l))))
