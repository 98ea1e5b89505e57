-- A refusal that a state may hold has the number of its byte.
-- Assumes nothing.
use Rattle.std.proofs.Common.{◌≡◌, ℕ, Bool, true, false, cond, eqb, Option, Some, arith, refl, sym, ◌∙◌, eqb-true}
use borrow.Author.Tests.{eqb-false}
use Rattle.std.proofs.lemmas.Bool.Decides.{nat_tests}
use Rattle.refused.specs.Number.{number, number_of}
use Rattle.refused.specs.declared.Refusal.{Refusal}
use Rattle.refused.specs.declared.Refusal.TheVariants.{NoSuchRecord, ValueOutOfRange, NotRouted, WrongSelect, WrongControl, StopAfterAck, StepAndDirection}
use Rattle.image_state.specs.How.{refusal_of, is_refusal}

one : (n k : ℕ) (r : Refusal) (rest : Option Refusal) → number r ≡ k → ((n ≡ k → ⊥) → number_of rest ≡ n) → number_of (cond (eqb n k) (Some r) rest) ≡ n
one n k r rest e h = by (eqb n k) refl
  where
    by : (b : Bool) → eqb n k ≡ b → number_of (cond b (Some r) rest) ≡ n
    by true t = e ∙ sym (eqb-true n k t)
    by false t = h (eqb-false n k t)

last : (n : ℕ) → is_refusal n ≡ true → (n ≡ 7 → ⊥) → (n ≡ 8 → ⊥) → (n ≡ 9 → ⊥) → (n ≡ 10 → ⊥) → (n ≡ 11 → ⊥) → (n ≡ 16 → ⊥) → (n ≡ 18 → ⊥) → 0 ≡ n
last n h a b c d e f g = grind (arith, nat_tests)

pub refusal_number : (n : ℕ) → is_refusal n ≡ true → number_of (refusal_of n) ≡ n
refusal_number n h =
    one n 7 NoSuchRecord _ refl (λ a. one n 8 ValueOutOfRange _ refl (λ b. one n 9 NotRouted _ refl (λ c. one n 10 WrongSelect _ refl (λ d. one n 11 WrongControl _ refl
    (λ e. one n 16 StopAfterAck _ refl (λ f. one n 18 StepAndDirection _ refl (λ g. last n h a b c d e f g)))))))
