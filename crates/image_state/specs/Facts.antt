-- What is shown of a stream's state in bytes.
-- Assumes nothing.
use Rattle.std.specs.Prelude.{ℕ, ◌<◌, ◌≡◌, length}
use Rattle.numbers.specs.Bytes.{byte}
use Rattle.live_state.specs.Live.{Live}
use Rattle.image_state.specs.Image.{size, image_of, Fits}

-- a stream's image has exactly that many bytes, and no other stream has it: at most one stands in any bytes
abbrev pub Images : Type 0
Images = (l : Live) → Fits l
    → (length (image_of l) ≡ size) × ((i : ℕ) → byte (image_of l) i < 256) × ((m : Live) → Fits m → image_of m ≡ image_of l → m ≡ l)
