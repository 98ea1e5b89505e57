-- `rate::find` meets its contract: what is not refused has a bracket. Assumes nothing.
use native.Mathlib.Omega.{arith}
use Rattle.rate.specs.Rate.{outside, loose}
use Rattle.rate.proofs.find.Goals as goal

pub returns-then-f-rule : goal.returns-then-f-rule
returns-then-f-rule c = outside (λ h. omega arith)

pub returns-then-tol-gt1000000 : goal.returns-then-tol-gt1000000
returns-then-tol-gt1000000 c = loose (omega arith) (omega arith)
