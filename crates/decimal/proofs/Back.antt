-- Reading the digits of a number gives it back. Assumes nothing.
use mathlib.Core.Path.{◌≡◌, refl, sym, ap, ◌∙◌, subst}
use mathlib.Core.Bool.{Bool, true, false, ◌&&◌, false≢true}
use mathlib.Core.List.{List, [], ◌∷◌, ◌++◌, append_cancel_left}
use Prim.Native.Nat.{ℕ, zero, suc, ◌+◌, ◌-◌, ◌*◌, ◌/◌, ◌%◌, ◌^◌, ◌≤◌, ◌<◌}
use native.Mathlib.Nat.{le_refl}
use native.Mathlib.Omega.{arith}
use lib.Dec.{ltb}
use lib.ListN.{length, get_or, length-append, get_or-append}
use borrow.Author.Tests.{lt-ltb, le-ltb, le-leb, ltb-true, ltb-false}
use Rattle.laws.proofs.Truth.{both_true}
use Rattle.std.proofs.Common.{Some}
use Rattle.decimal.specs.Decimal.{is_digit, are_digits, value_from, decimal_of}
use Rattle.decimal.specs.Digits.{digits_within, digits_of}

-- ---- the two equations that say what digitsOf is

within_small : (k n : ℕ) → n < 10 → digits_within k n ≡ (48 + n) ∷ []
unfolding digits_within
within_small zero n h = refl
within_small (suc k) n h = rw (lt-ltb n 10 h)

within_more : (k n : ℕ) → 10 ≤ n → digits_within (suc k) n ≡ digits_within k (n / 10) ++ ((48 + n % 10) ∷ [])
unfolding digits_within
within_more k n h = rw (le-ltb n 10 h)

-- more room than there are digits changes nothing
enough : (k j n : ℕ) → n ≤ k → n ≤ j → digits_within k n ≡ digits_within j n
enough zero j n h l = within_small zero n (omega arith) ∙ sym (within_small j n (omega arith))
enough (suc k) zero n h l = within_small (suc k) n (omega arith) ∙ sym (within_small zero n (omega arith))
enough (suc k) (suc j) n h l = go (ltb n 10) refl (λ q p. enough k j (n / 10) q p)
  where
    go : (t : Bool) → ltb n 10 ≡ t → (n / 10 ≤ k → n / 10 ≤ j → digits_within k (n / 10) ≡ digits_within j (n / 10)) → digits_within (suc k) n ≡ digits_within (suc j) n
    go true e ih = within_small (suc k) n (ltb-true n 10 e) ∙ sym (within_small (suc j) n (ltb-true n 10 e))
    go false e ih =
        let m = ltb-false n 10 e in
        within_more k n m ∙ ap (λ (s : List ℕ). s ++ ((48 + n % 10) ∷ [])) (ih (omega arith) (omega arith)) ∙ sym (within_more j n m)

pub digits_small : (n : ℕ) → n < 10 → digits_of n ≡ (48 + n) ∷ []
unfolding digits_of
digits_small n h = within_small n n h

pub digits_more : (n : ℕ) → 10 ≤ n → digits_of n ≡ digits_of (n / 10) ++ ((48 + n % 10) ∷ [])
unfolding digits_of
digits_more zero h = absurd (omega arith)
digits_more (suc n) h = within_more n (suc n) h ∙ ap (λ (s : List ℕ). s ++ ((48 + suc n % 10) ∷ [])) (enough n (suc n / 10) (suc n / 10) (omega arith) (le_refl _))

-- what holds of one digit, and of a number's digits if of its tenth's, holds of all numbers' digits
module _ (P : ℕ → List ℕ → Type 0) (one : (n : ℕ) → n < 10 → P n ((48 + n) ∷ []))
    (more : (n : ℕ) (s : List ℕ) → 10 ≤ n → P (n / 10) s → P n (s ++ ((48 + n % 10) ∷ []))) where
  by_digits_within : (k n : ℕ) → n ≤ k → P n (digits_within k n)
  by_digits_within zero n h = subst (P n) (sym (within_small zero n (omega arith))) (one n (omega arith))
  by_digits_within (suc k) n h = go (ltb n 10) refl (λ l. by_digits_within k (n / 10) l)
    where
      go : (t : Bool) → ltb n 10 ≡ t → (n / 10 ≤ k → P (n / 10) (digits_within k (n / 10))) → P n (digits_within (suc k) n)
      go true e ih = subst (P n) (sym (within_small (suc k) n (ltb-true n 10 e))) (one n (ltb-true n 10 e))
      go false e ih =
          let m = ltb-false n 10 e in
          subst (P n) (sym (within_more k n m)) (more n (digits_within k (n / 10)) m (ih (omega arith)))

  pub by_digits : (n : ℕ) → P n (digits_of n)
  unfolding digits_of
  by_digits n = by_digits_within n n (le_refl n)

-- ---- reading them gives the number back

value_snoc : (v : ℕ) (s : List ℕ) (b : ℕ) → value_from v (s ++ b ∷ []) ≡ 10 * value_from v s + (b - 48)
value_snoc v [] b = refl
value_snoc v (a ∷ s) b = value_snoc (10 * v + (a - 48)) s b

pub value_back : (n : ℕ) → value_from 0 (digits_of n) ≡ n
value_back = by_digits (λ n s. value_from 0 s ≡ n) (λ n h. omega arith) (λ n s h ih. value_snoc 0 s (48 + n % 10) ∙ omega arith)

pub digits_injective : (m n : ℕ) → digits_of m ≡ digits_of n → m ≡ n
digits_injective m n e = sym (value_back m) ∙ ap (value_from 0) e ∙ value_back n

-- ---- each is a digit, 48 to 57

digit_is : (n : ℕ) → n < 10 → is_digit (48 + n) ≡ true
digit_is n h = rw (le-leb 48 (48 + n) (omega arith), le-leb (48 + n) 57 (omega arith))

digits_snoc : (s : List ℕ) (b : ℕ) → are_digits s ≡ true → is_digit b ≡ true → are_digits (s ++ b ∷ []) ≡ true
digits_snoc [] b e f = rw f
digits_snoc (a ∷ s) b e f = go (is_digit a) e (λ e'. digits_snoc s b e' f)
  where
    go : (t : Bool) → t && are_digits s ≡ true → (are_digits s ≡ true → are_digits (s ++ b ∷ []) ≡ true) → t && are_digits (s ++ b ∷ []) ≡ true
    go true e ih = ih e
    go false e ih = e

pub are_digits_lem : (n : ℕ) → are_digits (digits_of n) ≡ true
are_digits_lem = by_digits (λ n s. are_digits s ≡ true) (λ n h. rw (digit_is n h)) (λ n s h ih. digits_snoc s (48 + n % 10) ih (digit_is (n % 10) (omega arith)))

-- ---- how many: 20 at most below 2^64

Within : ℕ → List ℕ → Type 0
Within n s = (j : ℕ) → n < 10 ^ suc j → length s ≤ suc j

within_step : (n : ℕ) (s : List ℕ) → 10 ≤ n → Within (n / 10) s → Within n (s ++ ((48 + n % 10) ∷ []))
unfolding Within
within_step n s h ih zero l = absurd (omega arith)
within_step n s h ih (suc j) l =
    let p : n / 10 < 10 ^ suc j = omega arith in
    omega (arith, length-append s ((48 + n % 10) ∷ []), ih j p)

within_one : (n : ℕ) → n < 10 → Within n ((48 + n) ∷ [])
unfolding Within
within_one n h j l = omega arith

pub few_digits : (n j : ℕ) → n < 10 ^ suc j → length (digits_of n) ≤ suc j
unfolding Within
few_digits n j h = by_digits Within within_one within_step n j h

pub twenty_digits : (n : ℕ) → n < 2 ^ 64 → length (digits_of n) ≤ 20
twenty_digits n h = few_digits n 19 (omega arith)

-- ---- there is one, and the first is no 0

Leads : ℕ → List ℕ → Type 0
Leads n s = (0 < length s) × (0 < n → 48 < get_or s 0 0)

leads_one : (n : ℕ) → n < 10 → Leads n ((48 + n) ∷ [])
unfolding Leads
leads_one n h = (omega arith, λ l. omega arith)

leads_more : (n : ℕ) (s : List ℕ) → 10 ≤ n → Leads (n / 10) s → Leads n (s ++ (48 + n % 10) ∷ [])
unfolding Leads
leads_more n s h (l, f) = (omega (arith, length-append s ((48 + n % 10) ∷ [])), λ p. rw (get_or-append s ((48 + n % 10) ∷ []) 0 0 l) (f (omega arith)))

pub some_digits : (n : ℕ) → 0 < length (digits_of n)
unfolding Leads
some_digits n = (by_digits Leads leads_one leads_more n).0

pub first_digit : (n : ℕ) → 0 < n → 48 < get_or (digits_of n) 0 0
unfolding Leads
first_digit n = (by_digits Leads leads_one leads_more n).1

-- ---- the reader of decimal::read gives the number back

pub decimal_back : (n : ℕ) → n < 2 ^ 64 → decimal_of (digits_of n) ≡ Some n
decimal_back n h = rw (lt-ltb 0 (length (digits_of n)) (some_digits n), are_digits_lem n, value_back n, lt-ltb n (2 ^ 64) h)

-- ---- where the digits end: before the first byte that is none

not_one : (x y : ℕ) → is_digit x ≡ true → is_digit y ≡ false → x ≡ y → ⊥
not_one x y p q e = false≢true (sym q ∙ sym (ap is_digit e) ∙ p)

pub ends : (s t : List ℕ) (b c : ℕ) (u v : List ℕ) → are_digits s ≡ true → are_digits t ≡ true → is_digit b ≡ false → is_digit c ≡ false
    → s ++ b ∷ u ≡ t ++ c ∷ v → s ≡ t
ends [] [] b c u v p q f g e = refl
ends [] (y ∷ t) b c u v p q f g e = absurd (not_one y b (both_true (is_digit y) (are_digits t) q).0 f (let h : y ≡ b = cc in h))
ends (x ∷ s) [] b c u v p q f g e = absurd (not_one x c (both_true (is_digit x) (are_digits s) p).0 g (let h : x ≡ c = cc in h))
ends (x ∷ s) (y ∷ t) b c u v p q f g e =
    let r : s ++ b ∷ u ≡ t ++ c ∷ v = cc in
    let i : s ≡ t = ends s t b c u v (both_true (is_digit x) (are_digits s) p).1 (both_true (is_digit y) (are_digits t) q).1 f g r in
    let j : x ≡ y = cc in
    cc

-- a number that a byte follows which is no digit is read in one way
pub digits_end : (m n b c : ℕ) (u v : List ℕ) → is_digit b ≡ false → is_digit c ≡ false → digits_of m ++ b ∷ u ≡ digits_of n ++ c ∷ v → (m ≡ n) × (u ≡ v)
digits_end m n b c u v f g e =
    let h = ends (digits_of m) (digits_of n) b c u v (are_digits_lem m) (are_digits_lem n) f g e in
    let r : b ∷ u ≡ c ∷ v = append_cancel_left (digits_of n) (b ∷ u) (c ∷ v) (rw h at e) in
    (digits_injective m n h, cc)
