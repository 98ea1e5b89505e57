-- What is made of a log, and what is then written. Assumes nothing.
use mathlib.Core.Path.{◌≡◌, refl, ap, ◌∙◌, subst}
use mathlib.Core.List.{List}
use Prim.Native.Nat.{ℕ, ◌≤◌}
use native.Mathlib.Omega.{arith}
use lib.ListN.{length, drop}
use Rattle.std.specs.Prelude.{Result}
use Rattle.fold.specs.Run.{Course, going, stopped}
use Rattle.fold.specs.Output.{stop_of}
use Rattle.replay.specs.Replay.{replayed}
use Rattle.replay.proofs.Numbers.{small}
use Rattle.replay.proofs.Proved.{refusal_some}
use Rattle.made.specs.declared.Failure.{Failure}
use Rattle.made.specs.Made.{made_of, output_of, failure_by}
use Rattle.made.proofs.Makes.{whole_answer, whole_output, stopped_answer, stopped_output}
use Rattle.printed.specs.Printed.{Prints, MadePrinted, Printing}
use Rattle.printed.proofs.Prints.{prints_made, prints_refused}

-- d was answered, mid is left, and told of
module _ (make : List ℕ → List ℕ) (log out : List ℕ) (fits : (replayed log).course ≡ going → length (make log) ≤ length out) (roomy : 57 ≤ length out)
    (d : Result ℕ Failure) (is : d ≡ made_of make log (length out)) (mid : List ℕ) (left : mid ≡ output_of make log out)
    (out' : List ℕ) (p : Result ℕ ℕ) (x : Printing d mid out' p) where
  pub made_printed : MadePrinted make log out' p
  unfolding stop_of
  made_printed = by (replayed log).course refl
    where
      by : (c : Course) → (replayed log).course ≡ c → Prints (failure_by c (replayed log).applied) (make log) out' p
      by going c =
          let e = is ∙ whole_answer make log out c (fits c) in
          prints_made (make log) mid out' p (length (make log)) (drop (length (make log)) out) (subst (λ (r : Result ℕ Failure). Printing r mid out' p) e x) refl
          (left ∙ whole_output make log out c (fits c))
      by (stopped k) c =
          let e = is ∙ stopped_answer make log k c (length out) in
          let m : mid ≡ out = left ∙ stopped_output make log k c out in
          prints_refused (make log) mid out' p _ (subst (λ (r : Result ℕ Failure). Printing r mid out' p) e x) (omega (arith, (refusal_some log 16_384 k c).1)) (omega (arith, small log 16_384 (stop_of (replayed log)) refl)) (omega (arith, ap length m))
