-- Laws of the order on periods, by cross multiplication. Assumes nothing.
use mathlib.Core.Path.{◌≡◌, ap}
use Prim.Native.Nat.{ℕ, ◌+◌, ◌*◌, ◌≤◌, ◌<◌}
use native.Mathlib.Nat.{le_trans, mul-le-mul_left, mul-le-mul_right, le_of_mul-le-mul_right, eq_of_mul-eq-mul_right, eq_of_mul-eq-mul_left}
use native.Mathlib.Omega.{arith}
use Rattle.rate.specs.Rate.{apart, Within, AsGood}

-- the top of an error
abbrev off : ℕ → ℕ → ℕ → ℕ
off C f p = apart C (f * p)

-- a / p ≤ b / q and b / r ≤ c / q, that is a / p ≤ b / q ≤ c / r
module _ (a b c p q r : ℕ) (hq : 0 < q) (h : a * q ≤ b * p) (l : b * r ≤ c * q) where
  cross : a * r ≤ c * p
  cross = le_of_mul-le-mul_right {k = q} (omega (arith, mul-le-mul_right r h, mul-le-mul_right p l)) hq

  cross_left : 0 < r → a * r ≡ c * p → a * q ≡ b * p
  cross_left hr e =
      eq_of_mul-eq-mul_right r hr (a * q) (b * p)
      (omega (arith, mul-le-mul_right r h, mul-le-mul_right p l, ap (λ (z : ℕ). z * q) e))

  cross_right : 0 < p → a * r ≡ c * p → b * r ≡ c * q
  cross_right hp e =
      eq_of_mul-eq-mul_right p hp (b * r) (c * q)
      (omega (arith, mul-le-mul_right r h, mul-le-mul_right p l, ap (λ (z : ℕ). z * q) e))

pub trans : {C f P N Q M R L : ℕ} → 0 < P → 0 < Q → 0 < R → AsGood C f P N Q M → AsGood C f Q M R L → AsGood C f P N R L
trans {C} {f} {P} {N} {Q} {M} {R} {L} hP hQ hR h l =
    record {
      near = cross a b c P Q R hQ h.near l.near;
      small = λ e. le_trans (h.small (left e)) (l.small (right e));
      fine = λ e s. le_trans (h.fine (left e) (between e s).0) (l.fine (right e) (between e s).1);
    }
  where
    a : ℕ
    a = off C f P

    b : ℕ
    b = off C f Q

    c : ℕ
    c = off C f R

    left : a * R ≡ c * P → a * Q ≡ b * P
    left e = cross_left a b c P Q R hQ h.near l.near hR e

    right : a * R ≡ c * P → b * R ≡ c * Q
    right e = cross_right a b c P Q R hQ h.near l.near hP e

    between : a * R ≡ c * P → P ≡ R → (P ≡ Q) × (Q ≡ R)
    between e s = omega (arith, h.small (left e), l.small (right e))

-- periods at or under the wanted rate's: the longer is nearer
module _ (C f p q d e : ℕ) (h : d + f * q ≡ C) (l : e + f * p ≡ C) (s : p ≤ q) where
  under : d * p ≤ e * q
  under = omega (arith, ap (λ (z : ℕ). z * p) h, ap (λ (z : ℕ). z * q) l, mul-le-mul_left C s)

  under_same : 0 < C → d * p ≡ e * q → q ≤ p
  under_same hC t =
      omega (
        arith,
        eq_of_mul-eq-mul_left C hC p q
            (omega (arith, ap (λ (z : ℕ). z * p) h, ap (λ (z : ℕ). z * q) l, mul-le-mul_left C s)),
      )

pub longer : {C f P Q N M : ℕ} → 0 < C → P ≤ Q → f * Q ≤ C → (Q ≡ P → N ≤ M) → AsGood C f Q N P M
longer {C} {f} {P} {Q} {N} {M} hC s h g =
    record {
      near = under C f P Q (off C f Q) (off C f P) (omega arith) (omega (arith, mul-le-mul_left f s)) s;
      small = under_same C f P Q (off C f Q) (off C f P) (omega arith) (omega (arith, mul-le-mul_left f s)) s hC;
      fine = λ e t. g t;
    }

-- periods at or over it: the shorter is nearer
over : (C f p q d e : ℕ) → d + C ≡ f * p → e + C ≡ f * q → p ≤ q → d * q ≤ e * p
over C f p q d e h l s = omega (arith, ap (λ (z : ℕ). z * q) h, ap (λ (z : ℕ). z * p) l, mul-le-mul_left C s)

pub shorter : {C f P Q N M : ℕ} → P ≤ Q → C ≤ f * P → (P ≡ Q → N ≤ M) → AsGood C f P N Q M
shorter {C} {f} {P} {Q} {N} {M} s h g =
    record {
      near = over C f P Q (off C f P) (off C f Q) (omega arith) (omega (arith, mul-le-mul_left f s)) s;
      small = λ e. s;
      fine = λ e t. g t;
    }

-- a period that is as near as one within the tolerance is within it
tolerated : (a b f tol p q : ℕ) → 0 < q → a * q ≤ b * p → 1_000_000 * b ≤ tol * (f * q) → 1_000_000 * a ≤ tol * (f * p)
tolerated a b f tol p q hq h l = le_of_mul-le-mul_right {k = q} (omega (arith, mul-le-mul_right p l)) hq

pub within_near : {C f P N Q M : ℕ} (tol : ℕ) → 0 < Q → AsGood C f P N Q M → Within C f tol Q → Within C f tol P
within_near {C} {f} {P} {N} {Q} {M} tol hQ h l = tolerated (off C f P) (off C f Q) f tol P Q hQ h.near l
