-- A definition by cases, and the test that decides it.
-- Assumes nothing.
use mathlib.Core.Path.{◌≡◌, refl, sym, ap, ◌∙◌}
use mathlib.Core.Bool.{Bool, true, false, cond}
use Prim.Native.Nat.{ℕ, ◌≤◌, ◌<◌}
use lib.Dec.{ltb, leb}
use borrow.Author.Tests.{lt-ltb, le-ltb, le-leb, lt-leb, eq-eqb, ne_eqb, ltb-true, ltb-false, leb-true, leb-false}

-- the tests on numbers, each decided by a fact at hand: `search cases` at a `returns`
pub ruleset cases = (lt-ltb, le-ltb, le-leb, lt-leb, eq-eqb, ne_eqb)

-- a rule by cases, at a test that passed, and at one that failed
pub taken : {A : Type 0} (b : Bool) (x y r : A) → b ≡ true → r ≡ x → r ≡ cond b x y
taken b x y r t h = h ∙ ap (λ (c : Bool). cond c x y) (sym t)

pub left : {A : Type 0} (b : Bool) (x y r : A) → b ≡ false → r ≡ y → r ≡ cond b x y
left b x y r t h = h ∙ ap (λ (c : Bool). cond c x y) (sym t)

-- a rule by cases on a value, at the case that a match has found
pub arm : {A B : Type 0} (f : A → B) (x y : A) (o : B) → x ≡ y → o ≡ f y → o ≡ f x
arm f x y o e q = q ∙ ap f (sym e)

-- what holds of both cases holds of the rule, each with what its test says
module _ {A : Type 0} (Q : A → Type 0) {x y : A} (m n : ℕ) where
  pub by_lt : (m < n → Q x) → (n ≤ m → Q y) → Q (cond (ltb m n) x y)
  by_lt h l = by (ltb m n) refl
    where
      by : (b : Bool) → ltb m n ≡ b → Q (cond b x y)
      by true e = h (ltb-true m n e)
      by false e = l (ltb-false m n e)

  pub by_le : (m ≤ n → Q x) → (n < m → Q y) → Q (cond (leb m n) x y)
  by_le h l = by (leb m n) refl
    where
      by : (b : Bool) → leb m n ≡ b → Q (cond b x y)
      by true e = h (leb-true m n e)
      by false e = l (leb-false m n e)
