-- Paper 02, k, on bytes that the caller lends: each call, for any bytes as a state.
-- Assumes nothing.
use Rattle.std.specs.Prelude.{◌≡◌, ℕ, ◌⊎◌, List, cond, length, leb, eqb}
use Rattle.fold.specs.Output.{over}
use Rattle.edition.specs.Edition.{known}
use Rattle.live_state.specs.Live.{Live, Taken, fresh_of}
use Rattle.refused.specs.Number.{number_of}
use Rattle.stream.specs.declared.Told.{Told}
use Rattle.image_state.specs.Image.{size, image_of, Stands}

-- "The edition is given at the start, with refusal 4"; then 6 if the state has too few bytes. Else its first bytes are the fresh stream's
abbrev pub start_of : ℕ → ℕ → ℕ
start_of edition room = cond (known edition) (cond (leb size room) 0 6) 4

abbrev pub started_in : ℕ → List ℕ → List ℕ
started_in edition state = cond (eqb (start_of edition (length state)) 0) (over (image_of (fresh_of edition)) state) state

-- what a chunk is answered with: the number of the refusal, and how many readings
abbrev pub Tells : Taken → Told → Type 0
Tells t r = (number_of r.refused ≡ t.refused) × (r.readings ≡ length t.readings)

-- any bytes as a state: P of the stream that stands in them or, where none does, N
abbrev pub On : List ℕ → (Live → Type 0) → Type 0 → Type 0
On state P N = ((l : Live) × Stands state l × P l) ⊎ (((l : Live) → Stands state l → ⊥) × N)
