-- A smaller log on its way to the output: every one has room. Assumes nothing.
use mathlib.Core.Path.{◌≡◌}
use mathlib.Core.List.{List}
use Prim.Native.Nat.{ℕ, ◌≤◌}
use native.Mathlib.Omega.{arith}
use lib.ListN.{length}
use Rattle.std.specs.Prelude.{Result}
use Rattle.made.specs.declared.Failure.{Failure}
use Rattle.made.specs.Made.{made_of, output_of}
use Rattle.shrink.specs.Shrink.{smaller_of}
use Rattle.shrink.proofs.Whole.{smaller_small}
use Rattle.printed.specs.Printed.{MadePrinted, Printing}
use Rattle.printed.proofs.OfLogs.{made_printed}

pub shrink_printed : (log out mid out' : List ℕ) (d : Result ℕ Failure) (p : Result ℕ ℕ) → 32768 ≤ length out → d ≡ made_of smaller_of log (length out) → mid ≡ output_of smaller_of log out
    → Printing d mid out' p → MadePrinted smaller_of log out' p
shrink_printed log out mid out' d p room is left x = made_printed smaller_of log out (λ c. omega (arith, smaller_small log c)) (omega arith) d is mid left out' p x
