-- A run at one encoder is the encoder's own.
-- Assumes nothing.
use mathlib.Core.Path.{◌≡◌}
use mathlib.Core.List.{List, foldl, map}
use Prim.Native.Nat.{ℕ, ◌<◌}
use Rattle.fold.specs.Run.{going, run_of}
use Rattle.fold.proofs.Laws as laws
use Rattle.edition.specs.declared.Edition.{Edition}
use Rattle.banks.specs.declared.State.{State}
use Rattle.banks.specs.State.{fresh}
use Rattle.banks.proofs.Whole.{Both}
use Rattle.replay.specs.Replay.{played}
use Rattle.walk.specs.Turn.{turn_of}
use Rattle.travel.proofs.Events.{event_at}
use Rattle.travel.proofs.Counting.{on_event}
use Rattle.travel.proofs.Banks.{Sound, view_at, turn_view, sound_turn, sound_fresh}

pub all_sound : (o : Edition) (rs : List (List ℕ)) → Both Sound (played o rs).state
all_sound o rs = laws.keeps (turn_of o) (Both Sound) (sound_turn o) fresh rs sound_fresh

-- at encoder i a run is the encoder's own
pub follows : (o : Edition) (k i : ℕ) → k < 2 → i < 10 → (b : State) (rs : List (List ℕ)) → Both Sound b → (run_of (turn_of o) b rs).course ≡ going
    → view_at o.port k i (run_of (turn_of o) b rs).state ≡ foldl on_event (view_at o.port k i b) (map (event_at o.port k i) rs)
follows o k i l h b rs s goes = laws.seen_by (turn_of o) (Both Sound) (sound_turn o) (view_at o.port k i) (event_at o.port k i) on_event (turn_view o k i l h) b rs s goes
