-- What the finder finds is an answer, and there is one answer to a request. Assumes nothing.
use mathlib.Core.Path.{◌≡◌, refl, sym, ap, ◌∙◌}
use mathlib.Core.Bool.{cond}
use Prim.Native.Nat.{ℕ, ◌+◌, ◌-◌, ◌*◌, ◌^◌, ◌≤◌, ◌<◌}
use native.Mathlib.Nat.{mul-pos, mul-le-mul, mul-le-mul_right, eq_of_mul-eq-mul_left, le_antisymm}
use native.Mathlib.Omega.{arith}
use lib.Dec.{ltb, leb}
use Rattle.laws.proofs.Cases.{by_lt, by_le}
use Rattle.divider.specs.Divider.{divider_of}
use Rattle.rate.specs.declared.Rule.{Rule}
use Rattle.rate_counts.specs.declared.Bracket.{Bracket}
use Rattle.rate_counts.specs.declared.Nearest.{Nearest}
use Rattle.std.specs.Prelude.{Result, Ok, Err}
use Rattle.refused.specs.declared.Refusal.{Refusal}
use Rattle.refused.specs.declared.Refusal.TheVariants.{RateOutOfRange, ToleranceTooLarge, NoPair}
use Rattle.rate.specs.declared.Pair.{Pair}
use Rattle.rate.specs.Rate.{apart, period, IsPair, AsGood, Within, Wins, InRange, Outcome, outside, loose, none, pair, found_numbers, Answer, pwm, spi}
use Rattle.rate.specs.Facts.{Settled}
use Rattle.rate_counts.specs.How.{Fit, Brackets, undivided_of, nearer_of}
use Rattle.rate_counts.proofs.Around.{first_brackets}
use Rattle.rate.specs.How.{Fair, Asked, pair_of}
use Rattle.rate_counts.proofs.Dividers.{some, one, next}
use Rattle.rate.proofs.Order.{within_near}
use Rattle.rate.proofs.Sides.{Least, pair_pos, some_count, fewer_best, more_best, shortened, shortened_brackets}

-- a rate in range is such as the finder takes
module _ (u : Rule) (fair : Fair u) (f : ℕ) (range : InRange u f) where
  pub fitting : Fit u.clock (f * u.base)
  fitting =
      let reach : u.low * u.base ≤ f * u.base = mul-le-mul_right u.base range.0 in
      let wide : f * u.base ≤ u.high * 2 = mul-le-mul range.1 fair.twice in
      let some : 0 < f * u.base = mul-pos (omega (arith, fair.low, range.0)) fair.base in
      omega (arith, fair)

-- of the pairs of w counts, the one that is answered has the smallest divider
module _ (c w : ℕ) (hc : 1 ≤ c) (lc : c ≤ 7) (hw : 1 ≤ w) (lw : w ≤ 65_536) (full : 1 < c → 32_768 ≤ w) where
  least : (p : ℕ) (Q : Pair → Type 0) → ((d x : ℕ) → Least (divider_of c) w d x → Q (record { choice = d; x = x; period = p })) → Q (pair_of c w p)
  least p Q g =
      by_lt Q 1 c
      (λ h. by_le Q w 32_768 (λ l. g _ _ (smaller h (omega (arith, full h)))) (λ l. g _ _ (kept (λ h. l))))
      (λ h. g _ _ (kept (λ t. absurd (omega arith))))
    where
      kept : (1 < c → 32_768 < w) → Least (divider_of c) w c (w - 1)
      kept t =
          let e : w - 1 + 1 ≡ w = omega arith in
          record { pair = (hc, lc, omega arith); same = ap (λ (z : ℕ). divider_of c * z) e; full = λ h. omega (arith, t h) }

      smaller : 1 < c → w ≡ 32_768 → Least (divider_of c) w (c - 1) (2 * w - 1)
      smaller h t =
          let e : 2 * w - 1 + 1 ≡ 2 * w = omega arith in
          let s : c - 1 + 1 ≡ c = omega arith in
          let d : divider_of c ≡ 2 * divider_of (c - 1) = sym (ap divider_of s) ∙ next (c - 1) (omega arith) (omega arith) in
          record { pair = omega arith; same = rw (e, d) (omega arith); full = λ l. omega arith }

-- a is the bracket of a request, and v its nearer count
module _ (u : Rule) (f tol : ℕ) (a : Bracket) (asked : Asked u f tol a) where
  fair : Fair u
  fair = asked.fair

  h : Brackets u.clock (f * u.base) a
  h = asked.bracket

  abbrev C : ℕ
  C = u.clock

  abbrev k : ℕ
  k = u.base

  abbrev c : ℕ
  c = a.choice

  abbrev N : ℕ
  N = divider_of c

  abbrev s : ℕ
  s = f * k * a.divider

  record Best (v : Nearest) : Type 0 where
    some : 1 ≤ v.count
    most : v.count ≤ 65_536
    full : 1 < c → 32_768 ≤ v.count
    small : s * v.count ≤ C + s
    missed : v.miss ≡ apart C (s * v.count)
    best : (d x e y : ℕ) → Least N v.count d x → IsPair e y → AsGood C f (k * N * v.count) (divider_of d) (period u e y) (divider_of e)

  steps : s ≡ f * (k * N)
  steps = rw h.divides (omega arith)

  nearest : Best (nearer_of C s a.low)
  nearest =
      by_le Best _ _
      (λ g.
      record {
        some = some_count C s a.low fair.ticks g;
        most = omega (arith, asked.low);
        full = h.full;
        small = omega (arith, h.around.under);
        missed = omega (arith, h.around.under);
        best = λ d x e y q p. fewer_best C k f fair.base a h fair.ticks d x (rw steps at g) q e y p;
      })
      (λ g.
      record {
        some = omega arith;
        most = omega (arith, asked.low);
        full = λ t. omega (arith, h.full t);
        small = omega (arith, h.around.under);
        missed = omega (arith, h.around.past);
        best = λ d x e y q p. more_best C k f fair.base a h fair.ticks d x (rw steps at g) q e y p;
      })

  module _ (v : Nearest) (is : v ≡ nearer_of C s a.low) where
    near : Best v
    near = rw is nearest

    abbrev w : ℕ
    w = v.count

    abbrev P : ℕ
    P = k * a.divider * w

    got : s * w ≡ f * (k * N * w)
    got = rw steps (omega arith)

    periods : (d x : ℕ) → Least N w d x → k * N * w ≡ period u d x
    periods d x q = let e = ap (λ (z : ℕ). k * z) q.same in omega arith

    pub allowed_fits : tol * (s * w) < 2 ^ 64
    allowed_fits = omega (arith, near.small, h.around, mul-le-mul_right (s * w) asked.few)

    within : 1_000_000 * v.miss ≤ tol * (s * w) → Within C f tol (k * N * w)
    within g = rw (near.missed, got) at g

    wins : 1_000_000 * v.miss ≤ tol * (s * w) → (d x : ℕ) → Least N w d x → Wins u f tol d x
    wins g d x q =
        record {
          pair = q.pair;
          within = rw (periods d x q) at (within g);
          best = λ e y p. rw (periods d x q) at (near.best d x e y q p);
        }

    paired : 1_000_000 * v.miss ≤ tol * (s * w) → (d x : ℕ) → Least N w d x → Answer u f tol (Ok (record { choice = d; x = x; period = P }))
    paired g d x q = rw (h.divides, periods d x q) (pair asked.range asked.few (wins g d x q))

    pub answer_pair : (r : Pair) → 1_000_000 * v.miss ≤ tol * (s * w) → r ≡ pair_of c w P → Answer u f tol (Ok r)
    answer_pair r g t =
        rw t (least c w h.some h.most near.some near.most near.full P (λ r. Answer u f tol (Ok r)) (paired g))

    pub answer_none : tol * (s * w) < 1_000_000 * v.miss → Answer u f tol (Err NoPair)
    answer_none g = none asked.range asked.few no_pair
      where
        too_far : Within C f tol (k * N * w) → ⊥
        too_far t = omega (arith, rw (near.missed, got) at g)

        no_pair : (d y : ℕ) → IsPair d y → Within C f tol (period u d y) → ⊥
        no_pair d y p t =
            least c w h.some h.most near.some near.most near.full P (λ r. ⊥)
            (λ b x q. too_far (within_near tol (pair_pos C k f fair.base a h d y p) (near.best b x d y q p) t))

-- the answer: the nearer count of the finest divider's bracket, if that is within the tolerance
abbrev answer : ℕ → ℕ → ℕ → ℕ → ℕ → Nearest → Result Pair Refusal
answer tol k c d s v = cond (leb (1_000_000 * v.miss) (tol * (s * v.count))) (Ok (pair_of c v.count (k * d * v.count))) (Err NoPair)

abbrev answer_at : Rule → ℕ → ℕ → Bracket → Result Pair Refusal
answer_at u f tol a =
    let s = f * u.base * a.divider in
    answer tol u.base a.choice a.divider s (nearer_of u.clock s a.low)

abbrev pub found : Rule → ℕ → ℕ → Result Pair Refusal
found u f tol =
    cond (ltb f u.low) (Err RateOutOfRange)
    (cond (ltb u.high f) (Err RateOutOfRange)
    (cond (ltb 1_000_000 tol) (Err ToleranceTooLarge)
    (answer_at u f tol (shortened 6 (undivided_of u.clock (f * u.base))))))

module _ (u : Rule) (fair : Fair u) (f tol : ℕ) where
  answered : (a : Bracket) → Asked u f tol a → Answer u f tol (answer_at u f tol a)
  answered a h =
      by_le (Answer u f tol) _ _
      (λ g. answer_pair u f tol a h _ refl _ g refl)
      (λ g. answer_none u f tol a h _ refl g)

  -- there is an answer
  pub found_right : Answer u f tol (found u f tol)
  found_right =
      by_lt (Answer u f tol) f u.low
      (λ below. outside (λ h. omega arith))
      (λ low.
      by_lt (Answer u f tol) u.high f
      (λ above. outside (λ h. omega arith))
      (λ high.
      by_lt (Answer u f tol) 1_000_000 tol
      (λ many. loose (low, high) (omega arith))
      (λ few.
      let fit = fitting u fair f (low, high) in
      let a = undivided_of u.clock (f * u.base) in
      let g = shortened_brackets u.clock (f * u.base) fit 6 a (first_brackets u.clock (f * u.base) fit) refl in
      answered (shortened 6 a) (record { fair = fair; range = (low, high); few = few; bracket = g.0; low = g.1 }))))

  one_pair : (c x d y : ℕ) → Wins u f tol c x → Wins u f tol d y → (c ≡ d) × (x ≡ y)
  one_pair c x d y h l = (same_c, same_x)
    where
      P : ℕ
      P = period u c x

      Q : ℕ
      Q = period u d y

      there : AsGood u.clock f P (divider_of c) Q (divider_of d)
      there = h.best d y l.pair

      back : AsGood u.clock f Q (divider_of d) P (divider_of c)
      back = l.best c x h.pair

      tie : apart u.clock (f * P) * Q ≡ apart u.clock (f * Q) * P
      tie = le_antisymm there.near back.near

      same_p : P ≡ Q
      same_p = le_antisymm (there.small tie) (back.small (sym tie))

      same_c : c ≡ d
      same_c =
          one c d h.pair.0 h.pair.1 l.pair.0 l.pair.1
          (le_antisymm (there.fine tie same_p) (back.fine (sym tie) (sym same_p)))

      same_x : x ≡ y
      same_x =
          omega (
            arith,
            eq_of_mul-eq-mul_left (u.base * divider_of c) (mul-pos fair.base (some c h.pair.0 h.pair.1)) (x + 1) (y + 1)
                (same_p ∙ ap (λ (e : ℕ). u.base * divider_of e * (y + 1)) (sym same_c)),
          )

  pub same_numbers : {v w : ℕ × ℕ × ℕ × ℕ} → Outcome u f tol v → Outcome u f tol w → v ≡ w
  same_numbers (outside a) (outside b) = refl
  same_numbers (outside a) (loose b t) = absurd (a b)
  same_numbers (outside a) (none b t e) = absurd (a b)
  same_numbers (outside a) (pair b t w) = absurd (a b)
  same_numbers (loose a s) (outside b) = absurd (b a)
  same_numbers (loose a s) (loose b t) = refl
  same_numbers (loose a s) (none b t e) = absurd (omega arith)
  same_numbers (loose a s) (pair b t w) = absurd (omega arith)
  same_numbers (none a s e) (outside b) = absurd (b a)
  same_numbers (none a s e) (loose b t) = absurd (omega arith)
  same_numbers (none a s e) (none b t g) = refl
  same_numbers (none a s e) (pair b t w) = absurd (e _ _ w.pair w.within)
  same_numbers (pair a s w) (outside b) = absurd (b a)
  same_numbers (pair a s w) (loose b t) = absurd (omega arith)
  same_numbers (pair a s w) (none b t e) = absurd (e _ _ w.pair w.within)
  same_numbers (pair a s w) (pair b t v) = let e = one_pair _ _ _ _ w v in rw (e.0, e.1)

pub settled : (u : Rule) → Fair u → Settled u
settled u fair f tol = (found_numbers (found u f tol), found_right u fair f tol, λ w h. same_numbers u fair f tol h (found_right u fair f tol))

pub fair_pwm : Fair (pwm 1_000)
fair_pwm = omega arith

pub fair_spi : Fair (spi 1_000)
fair_spi = omega arith

pub fair_hertz_pwm : Fair (pwm 1)
fair_hertz_pwm = omega arith

pub fair_hertz_spi : Fair (spi 1)
fair_hertz_spi = omega arith
