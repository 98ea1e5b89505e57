-- What is shown of a stream in lent bytes.
-- Assumes nothing.
use Rattle.std.specs.Prelude.{ℕ, ◌<◌, ◌≡◌, List, [], ◌∷◌, ◌++◌, length}
use Rattle.fold.specs.Output.{over}
use Rattle.numbers.specs.Bytes.{byte}
use Rattle.live_state.specs.Live.{Live, fresh_of, taken_of, chunk_of}
use Rattle.live_cut.specs.Cut.{Lent, bytes_in, Roomy}
use Rattle.image_state.specs.Image.{image_of, Stands}
use Rattle.stream.specs.Stream.{start_of, started_in, On}

-- chunk after chunk on the lent bytes: each call leaves them, and writes of the readings vs, as the contract of `rvz_stream_chunk` says
unfoldable pub Called : List ℕ → List Lent → List ℕ → List ℕ → Type 0
Called state [] after vs = (after ≡ state) × (vs ≡ [])
Called state (c ∷ cs) after vs = (mid : List ℕ) × (ws : List ℕ)
    × On state (λ l. let t = chunk_of l c.bytes c.room in (mid ≡ over (image_of t.live) state) × (vs ≡ t.readings ++ ws)) ((mid ≡ state) × (vs ≡ ws))
    × Called mid cs after ws

pub record Streams : Type 0 where
  -- in what is started stands the fresh stream
  pub starts : (edition : ℕ) (state : List ℕ) → start_of edition (length state) ≡ 0 → Stands (started_in edition state) (fresh_of edition)
  -- and in a state afterwards the stream that a chunk comes to
  pub keeps : (state bytes : List ℕ) (room : ℕ) (l : Live) → ((i : ℕ) → byte bytes i < 256) → Stands state l
      → Stands (over (image_of (chunk_of l bytes room).live) state) (chunk_of l bytes room).live
  -- "however a run of whole records is cut, with room enough each time", from the start on: in the end there stands in the lent bytes the stream that
  -- one chunk of all its bytes comes to, and the readings are those of that chunk
  pub any_calls : (edition : ℕ) (state after vs : List ℕ) (cs : List Lent) → start_of edition (length state) ≡ 0 → ((i : ℕ) → byte (bytes_in cs) i < 256)
      → Roomy (fresh_of edition) cs → Called (started_in edition state) cs after vs → let t = taken_of (fresh_of edition) (bytes_in cs) in
      Stands after t.live × (vs ≡ t.readings)

-- "Any two outcomes allowed by a contract are proved the same": P allows one of each stream, and N one where none stands
abbrev pub OnSettled : Type 1
OnSettled = (A : Type 0) (state : List ℕ) (P : Live → A → Type 0) (N : A → Type 0) → ((l : Live) (v w : A) → P l v → P l w → v ≡ w)
    → ((v w : A) → N v → N w → v ≡ w) → (v w : A) → On state (λ l. P l v) (N v) → On state (λ l. P l w) (N w) → v ≡ w
