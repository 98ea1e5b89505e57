-- What is shown of a stream: of any edition's number, any bytes, however they are cut into chunks, empty ones too.
-- Assumes nothing.
use Rattle.std.specs.Prelude.{ℕ, ◌*◌, ◌%◌, ◌≤◌, ◌≡◌, cond, List, [], ◌∷◌, ◌++◌, eqb, length, take, drop, Ok}
use Rattle.refused.specs.Number.{number_of}
use Rattle.fold.specs.Output.{refusal_of}
use Rattle.fold.specs.Stream.{wholes}
use Rattle.edition.specs.Edition.{edition_of}
use Rattle.wire.specs.Decode.{reads_in}
use Rattle.trailer.specs.Trailer.{trailer_of, records_of}
use Rattle.bank.specs.Bank.{encoder_at}
use Rattle.banks.specs.State.{bank_at}
use Rattle.replay.specs.Replay.{replay_of}
use Rattle.travel.specs.Stretch.{pins_in, encoder_after, Stretch}
use Rattle.travel.specs.Demand.{Demand}
use Rattle.live_state.specs.Live.{Live, Taken, fresh_of, taken_of, chunk_of, end_of}
use Rattle.live_cut.specs.Cut.{Lent, bytes_in, streamed, Roomy}

pub record Cuts : Type 0 where
  -- "however a run of whole records is cut, with room enough each time", it comes to what one chunk of all its bytes does: the run of all whole
  -- records; bytes behind the last of them may follow
  pub any_cut : (e : ℕ) (cs : List Lent) → Roomy (fresh_of e) cs → streamed (fresh_of e) cs ≡ taken_of (fresh_of e) (bytes_in cs)
  -- "bytes left over at the end are refusal 5"
  pub end_of_all : (e : ℕ) (cs : List Lent) → Roomy (fresh_of e) cs → (streamed (fresh_of e) cs).refused ≡ 0
      → end_of (streamed (fresh_of e) cs).live ≡ cond (eqb (length (bytes_in cs) % 16) 0) 0 5
  -- "the readings, the end state, the applied number and the first refusal are those of the whole log": its records arrive in chunks, by its
  -- edition, and its replay has room
  pub of_logs : (log : List ℕ) (room a n e : ℕ) (cs : List Lent) → trailer_of log ≡ Ok (record { start = a; count = n; edition = e }) → 8 * reads_in (records_of log) ≤ room
      → bytes_in cs ≡ take (16 * n) (drop a log) → Roomy (fresh_of e) cs → let x = replay_of log room in let k = number_of (refusal_of x.course) in
      let end : Live = record { edition = e; state = x.state; carried = []; applied = x.applied; refused = k } in
      streamed (fresh_of e) cs ≡ record { live = end; refused = k; readings = x.readings }
  -- 6 "leaves state and output untouched": the same chunk with more room goes on as if nothing had happened
  pub six_leaves : (s : Live) (bytes : List ℕ) (room : ℕ) → (chunk_of s bytes room).refused ≡ 6 → chunk_of s bytes room ≡ record { live = s; refused = 6; readings = [] }
  -- "after a refused record, a chunk or the end is answered with that refusal again .. and writes nothing", any number of times
  pub refused_again : (s : Live) (cs : List Lent) (bytes : List ℕ) (room : ℕ) → (s.refused ≡ 0 → ⊥)
      → let again : Taken = record { live = s; refused = s.refused; readings = [] } in
      (streamed s cs ≡ again) × (chunk_of s bytes room ≡ again) × (end_of s ≡ s.refused)
  -- demand 3 across chunks: the last count is the one that the stream's end state has
  pub demand : (e k i : ℕ) (cs : List Lent) (before : List (List ℕ)) (r : List ℕ) (rs : List (List ℕ)) → Roomy (fresh_of e) cs
      → wholes 16 (bytes_in cs) ≡ before ++ r ∷ rs → Stretch (edition_of e) k i before r rs
      → Demand (pins_in k i (r ∷ rs)) (encoder_after (edition_of e) k i (before ++ r ∷ [])).count (encoder_at i (bank_at k (streamed (fresh_of e) cs).live.state)).count
