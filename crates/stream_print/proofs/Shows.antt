-- The readings in a chunk's output, and the text of them. Assumes nothing.
use mathlib.Core.Path.{◌≡◌, sym, ap, subst}
use mathlib.Core.List.{List, [], ◌++◌}
use Prim.Native.Nat.{ℕ, ◌*◌, ◌/◌, ◌^◌, ◌≤◌, ◌<◌}
use native.Mathlib.Omega.{arith}
use lib.ListN.{length, get_or, take, drop, length-append}
use lib.Seq.{take_at, length-take-le}
use borrow.Author.Tests.{le-leb}
use Rattle.decimal.specs.Put.{Put}
use Rattle.numbers.specs.Bytes.{le_bytes}
use Rattle.wire.specs.Decode.{asks, reads_in}
use Rattle.trailer.proofs.Laws.{length_records}
use Rattle.fold.specs.Output.{bytes_of, over}
use Rattle.fold.proofs.Laws as laws
use Rattle.edition.specs.Edition.{edition_of}
use Rattle.walk.specs.Turn.{turn_of}
use Rattle.walk.proofs.Replaying.{asked}
use Rattle.image_state.specs.How.{FitsState}
use Rattle.image_kept.proofs.Keeping.{state_first, run_kept}
use Rattle.image_kept.proofs.Readings.{readings_small}
use Rattle.transcript.proofs.Numbers.{in_bytes}
use Rattle.text.specs.Text.{lines_of, readings_in}
use Rattle.text.proofs.Room.{lines_below}
use Rattle.printed.proofs.Readings.{long_bytes, readings_back}
use Rattle.live_state.specs.Live.{Live, Taken, fresh_of, taken_of, chunk_of}
use Rattle.live_state.specs.How.{finished, live_of, Good, Comes, written_by}
use Rattle.live_state.specs.declared.Stream.{Stream}
use Rattle.live_state.specs.declared.Chunked.{Chunked}
use Rattle.live_state.proofs.Ways.{Way, again, taken, not_taken, with_room, way}
use Rattle.stream_print.specs.Shown.{arrived, shown_of}
use Rattle.stream_print.specs.How.{Ready}

-- ---- 257 records at most

reads_below : (s : Live) (chunk : List ℕ) → length s.carried < 16 → length chunk ≤ 4096 → reads_in (finished s chunk) ≤ 257
reads_below s chunk h l = let b = s.carried ++ chunk in omega (arith, laws.tally_few asks (finished s chunk), length_records 16 (length b / 16) b, length-append s.carried chunk)

-- there is always room: no chunk is answered with 6, each is taken
pub all_taken : (s : Live) (chunk : List ℕ) → s.refused ≡ 0 → length s.carried < 16 → length chunk ≤ 4096 → arrived s chunk ≡ taken_of s chunk
all_taken s chunk none h l = with_room s chunk 2056 none (le-leb (8 * reads_in (finished s chunk)) 2056 (omega (arith, reads_below s chunk h l)))

readings_few : (s : Live) (chunk : List ℕ) → length (taken_of s chunk).readings ≤ reads_in (finished s chunk)
unfolding taken_of
readings_few s chunk = laws.room (turn_of (edition_of s.edition)) asks (asked (edition_of s.edition)) s.state (finished s chunk)

few : (s : Live) (chunk : List ℕ) → length s.carried < 16 → length chunk ≤ 4096 → length (arrived s chunk).readings ≤ 257
few s chunk h l = by (way s chunk 2056)
  where
    none : (t : Taken) → t.readings ≡ [] → length t.readings ≤ 257
    none t e = rw e (omega arith)

    by : Way s chunk 2056 → length (arrived s chunk).readings ≤ 257
    by (again d e) = none (arrived s chunk) (ap (λ (t : Taken). t.readings) e)
    by (taken z e) = rw e (omega (arith, readings_few s chunk, reads_below s chunk h l))
    by (not_taken z e) = none (arrived s chunk) (ap (λ (t : Taken). t.readings) e)

carried_few : (s : Stream) → Good s → length (live_of s).carried < 16
carried_few s g = omega (arith, length-take-le s.held s.carried (omega (arith, g.few, g.long)), g.few)

-- ---- every register stays in its range, and every reading is below 2^64

module _ (s : Live) (chunk : List ℕ) (fits : FitsState s.state) where
  chunk_kept : FitsState (arrived s chunk).live.state
  unfolding taken_of
  chunk_kept = by (way s chunk 2056)
    where
      by : Way s chunk 2056 → FitsState (arrived s chunk).live.state
      by (again d e) = rw e fits
      by (taken z e) = rw e (run_kept (edition_of s.edition) s.state (finished s chunk) fits)
      by (not_taken z e) = rw e fits

  chunk_small : (i : ℕ) → get_or (arrived s chunk).readings i 0 < 2 ^ 64
  unfolding taken_of
  chunk_small i = by (way s chunk 2056)
    where
      by : Way s chunk 2056 → get_or (arrived s chunk).readings i 0 < 2 ^ 64
      by (again d e) = rw e (omega arith)
      by (taken z e) = rw e (readings_small (edition_of s.edition) s.state (finished s chunk) fits i)
      by (not_taken z e) = rw e (omega arith)

pub ready_first : (s : Stream) (e : ℕ) → live_of s ≡ fresh_of e → Good s → Ready s
ready_first s e is g = record { good = g; fits = subst (λ (l : Live). FitsState l.state) (sym is) state_first }

-- ---- the chunk, and its text

module _ (s : Stream) (ready : Ready s) (chunk : List ℕ) (room : ℕ) (is : room ≡ 2056) (small : length chunk ≤ 4096) (r : Chunked)
    (x : Comes (chunk_of (live_of s) chunk room) r) where
  t : Taken
  t = arrived (live_of s) chunk

  bytes : List ℕ
  bytes = bytes_of (le_bytes 8) t.readings

  pub after : live_of r.stream ≡ (arrived (live_of s) chunk).live
  after = rw is at x.live

  pub ready_after : Good r.stream → Ready r.stream
  ready_after g = record { good = g; fits = subst (λ (l : Live). FitsState l.state) (sym after) (chunk_kept (live_of s) chunk ready.fits) }

  back : readings_in bytes ≡ t.readings
  unfolding bytes t
  back = readings_back t.readings (chunk_small (live_of s) chunk ready.fits)

  long : 8 * r.readings ≡ length bytes
  unfolding bytes t
  long = omega (arith, rw is at x.readings, long_bytes (arrived (live_of s) chunk).readings)

  below : length t.readings ≤ 257
  unfolding t
  below = few (live_of s) chunk (carried_few s ready.good) small

  pub readings_fit : 8 * r.readings < 2 ^ 64
  unfolding t
  readings_fit = omega (arith, rw is at x.readings, below)

  pub shown_short : length (shown_of (arrived (live_of s) chunk)) ≤ 5397
  unfolding bytes t
  shown_short = let b = bytes_of (le_bytes 8) (arrived (live_of s) chunk).readings in
      rw (← back) (omega (arith, lines_below (length b / 8) b (in_bytes (arrived (live_of s) chunk).readings), long_bytes (arrived (live_of s) chunk).readings, below))

  module _ (out out' : List ℕ) (o : out' ≡ written_by (chunk_of (live_of s) chunk room) out) where
    theirs : take (8 * r.readings) out' ≡ bytes
    unfolding over bytes t
    theirs = rw (o, is) (take_at (bytes_of (le_bytes 8) (arrived (live_of s) chunk).readings) (drop (length (bytes_of (le_bytes 8) (arrived (live_of s) chunk).readings)) out) (8 * r.readings) (sym long))

    pub inside : 8 * r.readings ≤ length out'
    unfolding over bytes t
    inside = let b = bytes_of (le_bytes 8) (arrived (live_of s) chunk).readings in omega (arith, long, ap length (rw is at o), length-append b (drop (length b) out))

    pub front : 8 * r.readings ≡ length (take (8 * r.readings) out')
    front = sym (length-take-le (8 * r.readings) out' inside)

    pub shown : (text text' : List ℕ) (n : ℕ) → Put text 0 (lines_of (readings_in (take (8 * r.readings) out'))) text' n
        → Put text 0 (shown_of (arrived (live_of s) chunk)) text' n
    unfolding t
    shown text text' n p = rw (theirs, back) at p
