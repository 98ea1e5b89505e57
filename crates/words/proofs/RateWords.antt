-- The parts of an answer about rates fit their places, so that they are read back, and the number is the only one. Assumes nothing.
use mathlib.Core.Path.{◌≡◌, refl, sym, ap, ◌∙◌}
use mathlib.Core.Bool.{Bool, true, false, cond, ◌||◌}
use Prim.Native.Nat.{ℕ, ◌^◌, ◌≤◌, ◌<◌}
use native.Mathlib.Nat.{mul-le-mul}
use native.Mathlib.Omega.{arith}
use lib.Dec.{ltb}
use borrow.Author.Tests.{ltb-false}
use Rattle.rate.specs.declared.Rule.{Rule}
use Rattle.std.specs.Prelude.{Result}
use Rattle.refused.specs.declared.Refusal.{Refusal}
use Rattle.rate.specs.declared.Pair.{Pair}
use Rattle.rate.specs.declared.Ratio.{Ratio}
use Rattle.rate.specs.Rate.{pwm, spi, Outcome, outside, loose, none, pair, Answer, found_numbers, period, rate_of, rated_numbers}
use Rattle.rate.specs.How.{Fair}
use Rattle.rate_counts.proofs.Dividers.{most}
use Rattle.rate.proofs.Answers.{same_numbers}
use Rattle.words.specs.Word.{found_in, rated_in}
use Rattle.words.specs.How.{find_word, rate_word}

-- ---- parts that fit are read back as they were, and a number is its parts

found_back : (n c x p : ℕ) → n < 2 ^ 8 → c < 2 ^ 8 → x < 2 ^ 16 → found_in (find_word (n, c, x, p)) ≡ (n, c, x, p)
found_back n c x p h l s = all (omega arith) (omega arith) (omega arith) (omega arith)
  where
    all : {a b d e : ℕ} → a ≡ n → b ≡ c → d ≡ x → e ≡ p → ◌≡◌ {A = ℕ × ℕ × ℕ × ℕ} (a, b, d, e) (n, c, x, p)
    all i j k m = rw (i, j, k, m)

found_whole : (w : ℕ) → find_word (found_in w) ≡ w
found_whole w = omega arith

rated_back : (n k p : ℕ) → n < 2 ^ 8 → p < 2 ^ 24 → rated_in (rate_word (n, k, p)) ≡ (n, k, p)
rated_back n k p h l = all (omega arith) (omega arith) (omega arith)
  where
    all : {a b d : ℕ} → a ≡ n → b ≡ k → d ≡ p → ◌≡◌ {A = ℕ × ℕ × ℕ} (a, b, d) (n, k, p)
    all i j m = rw (i, j, m)

rated_whole : (w : ℕ) → rate_word (rated_in w) ≡ w
rated_whole w = omega arith

-- ---- the rules whose clock and periods fit

pub record Narrow (u : Rule) : Type 0 where
  pub clock : u.hertz < 2 ^ 32
  pub twice : u.base ≤ 2

pub narrow_pwm : Narrow (pwm 1_000)
narrow_pwm = omega arith

pub narrow_spi : Narrow (spi 1_000)
narrow_spi = omega arith

period_small : (u : Rule) → Narrow u → (c x : ℕ) → 1 ≤ c → c ≤ 7 → x ≤ 65_535 → period u c x ≤ 8_388_608
period_small u narrow c x h l s = mul-le-mul {n₂ = 128} {m₂ = 65_536} (mul-le-mul {n₂ = 2} {m₂ = 64} narrow.twice (most c h l)) (omega arith)

-- ---- an answer to a request

record Fits (v : ℕ × ℕ × ℕ × ℕ) : Type 0 where
  refusal : v.0 < 2 ^ 8
  choice : v.1 < 2 ^ 8
  x : v.2 < 2 ^ 16
  period : v.3 < 2 ^ 32

module _ (u : Rule) (narrow : Narrow u) (f tol : ℕ) where
  fits : {v : ℕ × ℕ × ℕ × ℕ} → Outcome u f tol v → Fits v
  fits (outside a) = omega arith
  fits (loose a s) = omega arith
  fits (none a s e) = omega arith
  fits (pair a s w) =
      let p = w.pair in
      let h = period_small u narrow _ _ p.0 p.1 p.2 in
      omega arith

  pub choice_fits : (r : Result Pair Refusal) → Answer u f tol r → (found_numbers r).1 < 2 ^ 8
  choice_fits r h = (fits h).choice

  pub x_fits : (r : Result Pair Refusal) → Answer u f tol r → (found_numbers r).2 < 2 ^ 16
  x_fits r h = (fits h).x

  pub found_period_fits : (r : Result Pair Refusal) → Answer u f tol r → (found_numbers r).3 < 2 ^ 32
  found_period_fits r h = (fits h).period

  -- the number of an answer says the answer
  pub found_word : (r : Result Pair Refusal) (w : ℕ) → Answer u f tol r → w ≡ find_word (found_numbers r) → Outcome u f tol (found_in w)
  found_word r w h e =
      let v = found_numbers r in
      let k = fits h in
      rw (e, found_back v.0 v.1 v.2 v.3 k.refusal k.choice k.x) h

pub ruleset parts_fit = (choice_fits, x_fits, found_period_fits, narrow_pwm, narrow_spi)

-- ---- a rate that registers give

module _ (u : Rule) (narrow : Narrow u) (c x : ℕ) where
  record Rates (v : ℕ × ℕ × ℕ) : Type 0 where
    refusal : v.0 < 2 ^ 8
    clock : v.1 < 2 ^ 32
    period : v.2 < 2 ^ 24

  rated_fits : Rates (rate_of u c x)
  rated_fits = by (ltb c 1) (ltb 7 c) (ltb 65_535 x) refl refl refl
    where
      by : (s t v : Bool) → ltb c 1 ≡ s → ltb 7 c ≡ t → ltb 65_535 x ≡ v →
          Rates (cond (s || (t || v)) (15, 0, 0) (0, u.hertz, period u c x))
      by true t v es et ev = omega arith
      by false true v es et ev = omega arith
      by false false true es et ev = omega arith
      by false false false es et ev =
          let h = period_small u narrow c x (ltb-false c 1 es) (ltb-false 7 c et) (ltb-false 65_535 x ev) in
          record { refusal = omega arith; clock = narrow.clock; period = omega arith }

  pub period_fits : (r : Result Ratio Refusal) → rated_numbers r ≡ rate_of u c x → (rated_numbers r).2 < 2 ^ 24
  period_fits r e = rw e rated_fits.period

  pub clock_fits : (r : Result Ratio Refusal) → rated_numbers r ≡ rate_of u c x → (rated_numbers r).1 < 2 ^ 32
  clock_fits r e = rw e rated_fits.clock

  pub rated_word : (r : Result Ratio Refusal) (w : ℕ) → rated_numbers r ≡ rate_of u c x → w ≡ rate_word (rated_numbers r) → rated_in w ≡ rate_of u c x
  rated_word r w e l =
      let v = rate_of u c x in
      rw (l, e) (rated_back v.0 v.1 v.2 rated_fits.refusal rated_fits.period)

pub found_settled : (u : Rule) → Fair u → (f tol v w : ℕ) → Outcome u f tol (found_in v) → Outcome u f tol (found_in w) → v ≡ w
found_settled u fair f tol v w h l = sym (found_whole v) ∙ ap find_word (same_numbers u fair f tol h l) ∙ found_whole w

pub rated_settled : (v w : ℕ) → rated_in v ≡ rated_in w → v ≡ w
rated_settled v w h = sym (rated_whole v) ∙ ap rate_word h ∙ rated_whole w
