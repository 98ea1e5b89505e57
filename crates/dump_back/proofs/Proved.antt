-- The facts of specs/Facts.antt. Assumes nothing.
use mathlib.Core.Path.{◌≡◌, refl, sym, ap, subst}
use mathlib.Core.List.{List, ◌++◌}
use Prim.Native.Nat.{ℕ, ◌≤◌}
use lib.ListN.{length, take, drop}
use lib.Seq.{take_at, drop_at}
use Rattle.fold.specs.Run.{going}
use Rattle.vcd.specs.Entries.{entries_in}
use Rattle.vcd.specs.Reader.{Reads}
use Rattle.vcd.specs.Facts.{Shown}
use Rattle.vcd.proofs.Orders.{all_shown}
use Rattle.replay.specs.Replay.{replayed}
use Rattle.made.specs.Made.{made_of, output_of, size_in}
use Rattle.made.proofs.Makes.{whole_answer, whole_output}
use Rattle.dump.specs.Dump.{steps_of, dump_text}
use Rattle.dump.proofs.Views.{seen_pins, seen_ticks}
use Rattle.dump.proofs.Whole.{shown_log}
use Rattle.dump_back.specs.Facts.{Dumps}

module _ (log : List ℕ) (goes : (replayed log).course ≡ going) where
  is_shown : Shown (steps_of log)
  is_shown = all_shown (steps_of log) (shown_log log goes).0 (shown_log log goes).1

  module _ (out : List ℕ) (fits : length (dump_text log) ≤ length out) where
    size_is : size_in (made_of dump_text log (length out)) ≡ length (dump_text log)
    size_is = ap size_in (whole_answer dump_text log out goes fits)

    after_is : output_of dump_text log out ≡ dump_text log ++ drop (length (dump_text log)) out
    after_is = whole_output dump_text log out goes fits

    front : take (size_in (made_of dump_text log (length out))) (output_of dump_text log out) ≡ dump_text log
    front = rw (size_is, after_is) (take_at (dump_text log) (drop (length (dump_text log)) out) (length (dump_text log)) refl)

    beyond : drop (size_in (made_of dump_text log (length out))) (output_of dump_text log out) ≡ drop (size_in (made_of dump_text log (length out))) out
    beyond = rw (size_is, after_is) (drop_at (dump_text log) (drop (length (dump_text log)) out) (length (dump_text log)) refl)

    read : Reads (take (size_in (made_of dump_text log (length out))) (output_of dump_text log out)) (entries_in (steps_of log))
    read = subst (λ (s : List ℕ). Reads s (entries_in (steps_of log))) (sym front) is_shown.back

pub dumps : Dumps
dumps = record {
  shown = is_shown;
  written = λ log out goes fits. (size_is log goes out fits, front log goes out fits, beyond log goes out fits, read log goes out fits);
  pins = seen_pins;
  ticks = seen_ticks;
}
