-- The parts of a verdict's number fit their places, and there is one such number. Assumes nothing.
use mathlib.Core.Path.{◌≡◌, sym, ap, ◌∙◌}
use mathlib.Core.List.{List}
use Prim.Native.Nat.{ℕ, ◌+◌, ◌*◌, ◌/◌, ◌%◌, ◌^◌, ◌<◌}
use native.Mathlib.Omega.{arith}
use Rattle.std.specs.Prelude.{Result}
use Rattle.refused.specs.declared.Refusal.{Refusal}
use Rattle.transcript.specs.declared.Verdict.{Verdict}
use Rattle.transcript.specs.Judge.{Judged, verdict_numbers, Answer}
use Rattle.judge.proofs.Answers.{small_index, no_two}
use Rattle.words.specs.Word.{judged_in}

-- a number by its parts, and parts that fit
together : ℕ × ℕ × ℕ → ℕ
together p = p.0 + 256 * p.1 + 65_536 * p.2

whole : (w : ℕ) → together (judged_in w) ≡ w
unfolding together
whole w = omega arith

parts : (w k v i : ℕ) → k < 256 → v < 256 → w ≡ k + 256 * v + 65_536 * i → judged_in w ≡ (k, v, i)
parts w k v i p q e =
    let a : w % 256 ≡ k = omega arith in
    let h : w / 2 ^ 8 ≡ v + 256 * i = omega arith in
    let b : w / 2 ^ 8 % 2 ^ 8 ≡ v = ap (◌% 256) h ∙ omega arith in
    let c : w / 2 ^ 16 ≡ i = omega arith in
    cc

-- the call
module _ (log ts : List ℕ) (r : Result Verdict Refusal) (a : Answer log ts r) where
  pub index_small : (verdict_numbers r).2 < 2048
  index_small = small_index log ts (verdict_numbers r) a

  pub judge_word : (w : ℕ) → judged_in w ≡ verdict_numbers r → Judged log ts (judged_in w)
  judge_word w e = rw e a

pub judge_settled : (log ts : List ℕ) (v w : ℕ) → Judged log ts (judged_in v) → Judged log ts (judged_in w) → v ≡ w
judge_settled log ts v w p q = sym (whole v) ∙ ap together (no_two log ts (judged_in v) (judged_in w) p q) ∙ whole w
