-- What a chunk comes to is well-formed where the stream was, so that its image is a state. Assumes nothing.
use mathlib.Core.Path.{◌≡◌, refl}
use mathlib.Core.Bool.{Bool, true, false, cond}
use mathlib.Core.List.{List, [], ◌++◌}
use Prim.Native.Nat.{ℕ, ◌+◌, ◌*◌, ◌/◌, ◌<◌}
use native.Mathlib.Omega.{arith}
use lib.Dec.{eqb, leb}
use lib.ListN.{length, length-drop}
use lib.Seq.{get_or-drop}
use Rattle.fold.specs.Run.{Run, run_of}
use Rattle.refused.specs.Number.{number_of}
use Rattle.fold.specs.Output.{refusal_of}
use Rattle.fold.specs.Stream.{left_over}
use Rattle.edition.specs.Edition.{known, edition_of}
use Rattle.wire.specs.Decode.{reads_in}
use Rattle.banks.specs.declared.State.{State}
use Rattle.walk.specs.Turn.{turn_of}
use Rattle.live_state.specs.Live.{Live, Taken, fresh_of, taken_of, chunk_of}
use Rattle.live_state.specs.How.{finished}
use Rattle.codec.specs.How.{Bytes}
use Rattle.codec.proofs.Has.{bytes_both}
use Rattle.image_state.specs.Image.{Fits}
use Rattle.image_kept.proofs.Keeping.{state_first, run_kept, run_refusal}

-- ---- what is carried on

left_few : (xs : List ℕ) → length (left_over 16 xs) < 16
left_few xs = omega (arith, length-drop (16 * (length xs / 16)) xs)

few_carried : (b : Bool) (xs : List ℕ) → length (cond b (left_over 16 xs) []) < cond b 16 1
few_carried true xs = left_few xs
few_carried false xs = omega arith

bytes_left : (b : Bool) (xs : List ℕ) → Bytes xs → Bytes (cond b (left_over 16 xs) [])
bytes_left true xs h = λ i. rw (get_or-drop (16 * (length xs / 16)) xs i 0) (h (16 * (length xs / 16) + i))
bytes_left false xs h = λ i. omega arith

-- ---- the stream

module _ (l : Live) (f : Fits l) (bytes : List ℕ) (given : Bytes bytes) where
  abbrev ran : Run State ℕ
  ran = run_of (turn_of (edition_of l.edition)) l.state (finished l bytes)

  fits_taken : Fits (taken_of l bytes).live
  unfolding taken_of
  fits_taken = record {
    edition = f.edition;
    refused = run_refusal (edition_of l.edition) l.state (finished l bytes);
    held = few_carried (eqb (number_of (refusal_of ran.course)) 0) (l.carried ++ bytes);
    carried = bytes_left (eqb (number_of (refusal_of ran.course)) 0) (l.carried ++ bytes) (bytes_both l.carried bytes f.carried given);
    applied = omega arith;
    banks = run_kept (edition_of l.edition) l.state (finished l bytes) f.banks;
  }

  pub fits_chunk : (room : ℕ) → Fits (chunk_of l bytes room).live
  unfolding chunk_of
  fits_chunk room = by (eqb l.refused 0) (leb (8 * reads_in (finished l bytes)) room)
    where
      by : (a b : Bool) → Fits (cond {A = Taken} a (cond b (taken_of l bytes) (record { live = l; refused = 6; readings = [] })) (record { live = l; refused = l.refused; readings = [] })).live
      by true true = fits_taken
      by true false = f
      by false b = f

pub fits_fresh : (e : ℕ) → known e ≡ true → Fits (fresh_of e)
fits_fresh e k = record { edition = k; refused = refl; held = omega arith; carried = λ i. omega arith; applied = omega arith; banks = state_first }
