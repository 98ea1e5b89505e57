-- A dump on its way to the output: every dump has room. Assumes nothing.
use mathlib.Core.Path.{◌≡◌}
use mathlib.Core.List.{List}
use Prim.Native.Nat.{ℕ, ◌≤◌}
use native.Mathlib.Omega.{arith}
use lib.ListN.{length}
use Rattle.std.specs.Prelude.{Result}
use Rattle.made.specs.declared.Failure.{Failure}
use Rattle.made.specs.Made.{made_of, output_of}
use Rattle.dump.specs.Dump.{dump_text}
use Rattle.dump.proofs.Whole.{text_short}
use Rattle.printed.specs.Printed.{MadePrinted, Printing}
use Rattle.printed.proofs.OfLogs.{made_printed}

pub dump_printed : (log out mid out' : List ℕ) (d : Result ℕ Failure) (p : Result ℕ ℕ) → 25207 ≤ length out → d ≡ made_of dump_text log (length out) → mid ≡ output_of dump_text log out
    → Printing d mid out' p → MadePrinted dump_text log out' p
dump_printed log out mid out' d p room is left x = made_printed dump_text log out (λ c. omega (arith, text_short log c)) (omega arith) d is mid left out' p x
