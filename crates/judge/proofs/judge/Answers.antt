-- `judge::judge` meets its contract. Assumes nothing.
use mathlib.Core.Path.{sym, ◌∙◌}
use Prim.Native.Nat.{ℕ}
use native.Mathlib.Omega.{arith}
use borrow.Author.Rules.{rules}
use lib.ListN.{length-replicate}
use Rattle.std.proofs.lemmas.Result.{err_from_is_err_and}
use Rattle.judge.proofs.Whole.{refuses, wrong_length, ready, few, no_trailer}
use Rattle.judge.proofs.judge.Goals as goal

pub returns-in-Some : goal.returns-in-Some
returns-in-Some c = search (refuses, rules)

pub overflow_mul-stop : goal.overflow_mul-stop
overflow_mul-stop c = let r = c.replay-stop.ensures in record { fits = omega (arith, few _ _ _ _ _ r.value r.out_after) }

pub returns-then-transcript-stop : goal.returns-then-transcript-stop
returns-then-transcript-stop c = search (wrong_length, rules)

pub returns-in_err-trailer : goal.returns-in_err-trailer
returns-in_err-trailer c =
    let p = err_from_is_err_and c.from_residual.result c.from_residual.ensures.1 in
    rw (p.1, p.2) (no_trailer _ _ _ (sym c.in_err-trailer.ensures))

pub compare-requires : goal.compare-requires
compare-requires c =
    ready _ _ (length-replicate {A = ℕ} 16384 0) _ c.replay-stop.ensures.value _ c.in_default.is _ _ c.replay-stop.ensures.out_after c.if-transcript-stop.false
    _ (sym c.find.ensures ∙ c.in_ok-trailer.was)
