-- A bracket has the two counts next to the wanted rate, and every pair lies on the far side of one of them. Assumes nothing.
use mathlib.Core.Path.{◌≡◌}
use mathlib.Core.Bool.{cond}
use Prim.Native.Nat.{ℕ, zero, suc, ◌+◌, ◌-◌, ◌*◌, ◌^◌, ◌≤◌, ◌<◌}
use native.Mathlib.Nat.{mul-pos, mul-le-mul_left, mul-le-mul_right, mul-lt-mul_of_pos_left, eq_of_mul-eq-mul_left}
use native.Mathlib.Omega.{arith}
use native.Mathlib.Decide.{dec_le}
use lib.Dec.{ltb}
use Rattle.laws.proofs.Cases.{by_lt}
use Rattle.divider.specs.Divider.{divider_of}
use Rattle.rate_counts.specs.declared.Bracket.{Bracket}
use Rattle.rate.specs.Rate.{apart, IsPair, AsGood}
use Rattle.rate_counts.specs.How.{Fit, Brackets, coarser_of, short, over}
use Rattle.rate_counts.proofs.Around.{more, coarser_brackets}
use Rattle.rate_counts.proofs.Dividers.{some, grow, times, twice}
use Rattle.rate.proofs.Order.{trans, longer, shorter}

-- the next bracket, coarser until the count is short enough, at most i times
abbrev pub shortened : ℕ → Bracket → Bracket
shortened zero a = a
shortened (suc i) a = cond (ltb a.low 65_536) a (shortened i (coarser_of a))

module _ (C s : ℕ) (fit : Fit C s) where
  abbrev Short : Bracket → Type 0
  Short b = Brackets C s b × (b.low < 65_536)

  pub shortened_brackets : (i : ℕ) (a : Bracket) → Brackets C s a → a.choice + i ≡ 7 → Short (shortened i a)
  shortened_brackets zero a h e = (h, at_last (dec_le 65_536 a.low))
    where
      at_last : Dec (65_536 ≤ a.low) → a.low < 65_536
      at_last (yes t) = absurd (omega (arith, more C s fit a h t))
      at_last (no t) = omega arith
  shortened_brackets (suc i) a h e =
      by_lt Short a.low 65_536 (λ l. (h, l)) (λ l. shortened_brackets i (coarser_of a) (coarser_brackets C s fit a h l) (omega arith))

-- no count at all is never the nearer
pub some_count : (C s m : ℕ) → 0 < C → short C s m * (m + 1) ≤ over C s m * m → 1 ≤ m
some_count C s zero fast h = absurd (omega arith)
some_count C s (suc m) fast h = omega arith

-- the periods of m counts of n ticks and of one more, next to the wanted rate
module _ (C f n m : ℕ) (hn : 0 < n) (under : f * n * m ≤ C) (past : C < f * n * (m + 1)) where
  misses : (apart C (f * (n * m)) ≡ short C (f * n) m) × (apart C (f * (n * (m + 1))) ≡ over C (f * n) m)
  misses = (omega arith, omega arith)

  grows : n * m < n * (m + 1)
  grows = omega arith

  -- the fewer are as good as one more, or the other way round
  pub fewer : (N : ℕ) → short C (f * n) m * (m + 1) ≤ over C (f * n) m * m → AsGood C f (n * m) N (n * (m + 1)) 0
  fewer N h =
      record {
        near = rw (misses.0, misses.1) (omega (arith, mul-le-mul_left n h));
        small = λ e. omega (arith, grows);
        fine = λ e t. absurd (omega (arith, grows));
      }

  pub one_more : (N : ℕ) → over C (f * n) m * m < short C (f * n) m * (m + 1) → AsGood C f (n * (m + 1)) N (n * m) 0
  one_more N h =
      record {
        near = rw (misses.0, misses.1) (omega (arith, mul-le-mul_left n h));
        small = λ e. absurd (strict (rw (misses.0, misses.1) at e));
        fine = λ e t. absurd (omega (arith, grows));
      }
    where
      strict : over C (f * n) m * (n * m) ≡ short C (f * n) m * (n * (m + 1)) → ⊥
      strict e = omega (arith, mul-le-mul_left n h)

-- a pair of w counts of the divider N that no smaller divider makes too
pub record Least (N w c x : ℕ) : Type 0 where
  pub pair : IsPair c x
  pub same : divider_of c * (x + 1) ≡ N * w
  pub full : 1 < c → 32_768 ≤ x

-- no pair of the same counts has a smaller divider
least_wins : {N w c x : ℕ} → Least N w c x → (d y : ℕ) → IsPair d y → N * w ≡ divider_of d * (y + 1) → divider_of c ≤ divider_of d
least_wins {N} {w} {c} {x} h d y p e = by (dec_le c d)
  where
    by : Dec (c ≤ d) → divider_of c ≤ divider_of d
    by (yes t) = grow c d h.pair.0 t p.1
    by (no t) =
        let a : 2 * divider_of d * (x + 1) ≤ divider_of c * (x + 1) = mul-le-mul_right (x + 1) (twice d c p.0 (omega arith) h.pair.1) in
        let b : divider_of d * (y + 1) < divider_of d * (2 * (x + 1)) =
        mul-lt-mul_of_pos_left (omega (arith, h.full (omega (arith, p.0)), p.2)) (some d p.0 p.1) in
        absurd (omega (arith, h.same))

module _ (C k f : ℕ) (base : 0 < k) (a : Bracket) (h : Brackets C (f * k) a) where
  abbrev N : ℕ
  N = divider_of a.choice

  abbrev n : ℕ
  n = k * N

  abbrev m : ℕ
  m = a.low

  abbrev period : ℕ → ℕ → ℕ
  period d y = k * divider_of d * (y + 1)

  ticks : 0 < n
  ticks = mul-pos (base) (some a.choice h.some h.most)

  pub pair_pos : (d y : ℕ) → IsPair d y → 0 < period d y
  pair_pos d y p = mul-pos (mul-pos (base) (some d p.0 p.1)) (omega arith)

  under : f * n * m ≤ C
  under = omega (arith, (rw h.divides at h).around.under)

  past : C < f * n * (m + 1)
  past = omega (arith, (rw h.divides at h).around.past)

  -- each pair has at most the bracket's counts, or one more at least
  sides : (R : Type 0) (d y : ℕ) → IsPair d y → (period d y ≤ n * m → R) → (n * (m + 1) ≤ period d y → R) → R
  sides R d y p few many = by (dec_le a.choice d)
    where
      counts : (z : ℕ) → period d y ≡ n * z → R
      counts z e = of (dec_le z m)
        where
          of : Dec (z ≤ m) → R
          of (yes t) = few (omega (arith, mul-le-mul_left n t))
          of (no t) = let l : m + 1 ≤ z = omega arith in many (omega (arith, mul-le-mul_left n l))

      by : Dec (a.choice ≤ d) → R
      by (yes t) = counts (2 ^ (d - a.choice) * (y + 1)) (rw (times a.choice d h.some t p.1) (omega arith))
      by (no t) =
          let l : y + 1 ≤ 2 * m = omega (arith, p.2, h.full (omega (arith, p.0))) in
          let g : k * (2 * divider_of d * m) ≤ k * (N * m) =
          mul-le-mul_left k (mul-le-mul_right m (twice d a.choice p.0 (omega arith) h.most)) in
          few (omega (arith, mul-le-mul_left (k * divider_of d) l))

  finer : (w c x : ℕ) → Least N w c x → (d y : ℕ) → IsPair d y → n * w ≡ period d y → divider_of c ≤ divider_of d
  finer w c x l d y p e = least_wins l d y p (eq_of_mul-eq-mul_left k (base) (N * w) (divider_of d * (y + 1)) (omega arith))

  -- so the nearer of the two counts is as good as each pair
  module _ (fast : 0 < C) (c x : ℕ) where
    pub fewer_best : short C (f * n) m * (m + 1) ≤ over C (f * n) m * m → Least N m c x → (d y : ℕ) → IsPair d y →
        AsGood C f (n * m) (divider_of c) (period d y) (divider_of d)
    fewer_best g l d y p =
        sides (AsGood C f (n * m) (divider_of c) (period d y) (divider_of d)) d y p
        (λ s. longer fast s (omega (arith, under)) (finer m c x l d y p))
        (λ s.
        trans (mul-pos ticks (some_count C (f * n) m fast g)) (mul-pos ticks (omega arith)) (pair_pos d y p)
        (fewer C f n m ticks under past (divider_of c) g)
        (shorter s (omega (arith, past)) (λ e. omega arith)))

    pub more_best : over C (f * n) m * m < short C (f * n) m * (m + 1) → Least N (m + 1) c x → (d y : ℕ) → IsPair d y →
        AsGood C f (n * (m + 1)) (divider_of c) (period d y) (divider_of d)
    more_best g l d y p =
        sides (AsGood C f (n * (m + 1)) (divider_of c) (period d y) (divider_of d)) d y p
        (λ s.
        trans (mul-pos ticks (omega arith)) (omega (arith, pair_pos d y p)) (pair_pos d y p)
        (one_more C f n m ticks under past (divider_of c) g)
        (longer fast s (omega (arith, under)) (λ e. omega arith)))
        (λ s. shorter s (omega (arith, past)) (finer (m + 1) c x l d y p))
