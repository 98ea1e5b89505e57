-- The plain comparison, reading by reading.
-- Assumes nothing.
use Rattle.std.proofs.Common.{◌≡◌, ℕ, ◌+◌, ◌*◌, ◌/◌, ◌<◌, ◌≤◌, List, length, get_or, sym, ◌∙◌, arith, w8, Fits}
use Rattle.numbers.specs.Bytes.{le_of}
use Rattle.transcript.specs.declared.Verdict.TheVariants.{Same, Different}
use Rattle.transcript.specs.How.{Agree, Plainly, all, until}
use Rattle.transcript.proofs.Numbers.{in_slice, one_more, the_next}

module _ (ts out : List ℕ) (i : ℕ) (agree : Agree i ts out) where
  pub all_agree : i ≡ length ts / 8 → Plainly ts out Same
  all_agree e = all (rw e at agree)

  module _ (t v : ℕ) (is : t ≡ le_of 8 ts (8 * i)) (was : v ≡ le_of 8 out (8 * i)) where
    pub next_differs : i < length ts / 8 → (t ≡ v → ⊥) → Plainly ts out (Different i)
    next_differs l d = until l agree (λ a. d (is ∙ the_next i ts out a ∙ sym was))

    pub next_agrees : ((k : ℕ) → Fits w8 (get_or ts k 0)) → ((k : ℕ) → Fits w8 (get_or out k 0)) → length ts ≤ length out → i < length ts / 8 → t ≡ v → Agree (i + 1) ts out
    next_agrees b c h l e =
        one_more i ts out (in_slice ts b) (in_slice out c) (omega arith) (omega arith) agree (sym is ∙ e ∙ was)
