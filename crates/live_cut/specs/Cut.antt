-- A stream whose bytes arrive in chunks.
-- Assumes nothing.
use Rattle.std.specs.Prelude.{ℕ, ◌≡◌}
use mathlib.Core.List.{List, [], ◌∷◌, ◌++◌, map, flatten}
use Rattle.live_state.specs.Live.{Live, Taken, chunk_of}

-- a chunk's bytes, and the length of the output that is lent for it
pub record Lent : Type 0 where
  pub bytes : List ℕ
  pub room : ℕ

-- the bytes of all chunks, one chunk after the other
abbrev pub bytes_in : List Lent → List ℕ
bytes_in cs = flatten (map (λ (c : Lent). c.bytes) cs)

-- what chunk after chunk comes to: the stream afterwards, its refusal, and the readings, one after the other
unfoldable pub streamed : Live → List Lent → Taken
streamed s [] = record { live = s; refused = s.refused; readings = [] }
streamed s (c ∷ cs) = let t = chunk_of s c.bytes c.room in let u = streamed t.live cs in
    record { live = u.live; refused = u.refused; readings = t.readings ++ u.readings }

-- "with room enough each time": no chunk is answered with 6
unfoldable pub Roomy : Live → List Lent → Type 0
Roomy s [] = Unit {0}
Roomy s (c ∷ cs) = ((chunk_of s c.bytes c.room).refused ≡ 6 → ⊥) × Roomy (chunk_of s c.bytes c.room).live cs
