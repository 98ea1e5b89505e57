-- The readings of a log's replay, and what is read of the bytes that it writes.
-- Assumes nothing.
use mathlib.Core.Bool.{Bool, true, false, cond}
use mathlib.Core.List.{List, []}
use Prim.Native.Nat.{ℕ, ◌*◌, ◌^◌, ◌<◌}
use native.Mathlib.Omega.{arith}
use lib.Dec.{leb}
use lib.ListN.{length, get_or}
use Rattle.fold.specs.Run.{halted}
use Rattle.fold.specs.Output.{over, output_of}
use Rattle.edition.specs.declared.Edition.{Edition}
use Rattle.wire.specs.Decode.{reads_in}
use Rattle.trailer.specs.Trailer.{trailer_of}
use Rattle.trailer.specs.declared.Trailer.{Trailer}
use Rattle.std.proofs.Common.{Result, Ok, Err}
use Rattle.refused.specs.declared.Refusal.{Refusal}
use Rattle.refused.specs.declared.Refusal.TheVariants.{OutputTooShort}
use Rattle.banks.specs.State.{fresh}
use Rattle.replay.specs.Replay.{played, play_of, replay_from, replay_of}
use Rattle.replay.proofs.Bytes.{reading_there}
use Rattle.image_kept.specs.Facts.{EightBytes}
use Rattle.image_kept.proofs.Keeping.{state_first}
use Rattle.image_kept.proofs.Readings.{readings_small}

play_small : (e : Edition) (rs : List (List ℕ)) (room i : ℕ) → get_or (play_of e rs room).readings i 0 < 2 ^ 64
unfolding play_of
play_small e rs room i = by (leb (8 * reads_in rs) room)
  where
    by : (t : Bool) → get_or (cond t (played e rs) (halted fresh 0 [] OutputTooShort)).readings i 0 < 2 ^ 64
    by true = readings_small e fresh rs state_first i
    by false = omega arith

pub replay_small : (log : List ℕ) (room i : ℕ) → get_or (replay_of log room).readings i 0 < 2 ^ 64
unfolding replay_of replay_from
replay_small log room i = by (trailer_of log)
  where
    by : (t : Result Trailer Refusal) → get_or (replay_from t log room).readings i 0 < 2 ^ 64
    by (Err k) = omega arith
    by (Ok t) = play_small _ _ room i

pub eight_bytes : EightBytes
unfolding output_of over
eight_bytes log out i h = reading_there (replay_of log (length out)).readings _ i h (omega (arith, replay_small log (length out) i))
