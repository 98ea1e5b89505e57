use Rattle.std.proofs.Common.{ℕ, rules}
use lib.ListN.{length-replicate}
use Rattle.made.proofs.Sources.{refuses, no_trailer, found}
use Rattle.made.proofs.source_of.Goals as goal

pub returns-in-Some : goal.returns-in-Some
returns-in-Some c = search (refuses, length-replicate {A = ℕ} 16384 0)

pub returns-in_err-find : goal.returns-in_err-find
returns-in_err-find c = no_trailer _ _ (length-replicate {A = ℕ} 16384 0) _ c.replay-stop.ensures.value (search rules) _ c.find.ensures _ c.in_err-find.was _ c.from_residual.ensures.1

pub returns : goal.returns
returns c = found _ _ (length-replicate {A = ℕ} 16384 0) _ c.replay-stop.ensures.value (search rules) _ c.find.ensures _ c.in_ok-find.was
