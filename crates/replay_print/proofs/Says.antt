-- The readings in the replay's output, and the text of them. Assumes nothing.
use mathlib.Core.Path.{◌≡◌, sym, ap}
use mathlib.Core.List.{List}
use Prim.Native.Nat.{ℕ, ◌*◌, ◌^◌, ◌≤◌, ◌<◌}
use native.Mathlib.Omega.{arith}
use lib.ListN.{length, take, drop}
use lib.Seq.{take_at}
use Rattle.decimal.specs.Put.{Put}
use Rattle.numbers.specs.Bytes.{le_bytes}
use Rattle.fold.specs.declared.Stop.{Stop}
use Rattle.refused.specs.Number.{number_of}
use Rattle.fold.specs.Output.{refusal_of, bytes_of, over, stop_of, output_of}
use Rattle.replay.specs.Replay.{replay_of}
use Rattle.image_kept.proofs.Replayed.{replay_small}
use Rattle.transcript.proofs.Numbers.{in_bytes}
use Rattle.judge.proofs.Whole.{few}
use Rattle.text.specs.Text.{text_of, readings_in}
use Rattle.text.proofs.Room.{text_below}
use Rattle.printed.proofs.Readings.{long_bytes, readings_back}
use Rattle.replay_print.specs.Said.{said_of}

module _ (log : List ℕ) (room : ℕ) (stop : Stop) (out out' : List ℕ) (s : stop ≡ stop_of (replay_of log room))
    (o : out' ≡ output_of (le_bytes 8) (replay_of log room) out) where
  bytes : List ℕ
  bytes = bytes_of (le_bytes 8) (replay_of log room).readings

  long : 8 * stop.readings ≡ length bytes
  unfolding stop_of bytes
  long = omega (arith, ap (λ (t : Stop). t.readings) s, long_bytes (replay_of log room).readings)

  theirs : take (8 * stop.readings) out' ≡ bytes
  unfolding output_of over bytes
  theirs = rw o (take_at bytes (drop (length bytes) out) (8 * stop.readings) (sym long))

  back : readings_in bytes ≡ (replay_of log room).readings
  unfolding bytes
  back = readings_back (replay_of log room).readings (replay_small log room)

  module _ (e : room ≡ 16_384) where
    pub said : (k : ℕ) → k ≡ number_of stop.refused → (text text' : List ℕ) (n : ℕ) → Put text 0 (text_of (readings_in (take (8 * stop.readings) out')) stop.applied k) text' n
        → Put text 0 (said_of log) text' n
    unfolding said_of stop_of
    said k q text text' n x = rw (← e) (rw (q, theirs, back, s) at x)

    pub room_enough : length out' ≡ 16_384 → stop.applied < 2 ^ 64 → number_of stop.refused < 2 ^ 64 → length (said_of log) ≤ 43_066
    unfolding said_of stop_of bytes
    room_enough h p q =
        let t = replay_of log room in
        rw (← e, ← back) (omega (arith, few log room stop out out' s o, long, text_below bytes t.applied (number_of (refusal_of t.course)) (in_bytes t.readings) (rw s at p) (rw s at q)))
