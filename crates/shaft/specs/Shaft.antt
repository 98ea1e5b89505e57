-- A shaft, its motions, and the pins that it shows. Pins are 0 to 3: bit 0 is the first pin A, bit 1 the second pin B.
-- Assumes nothing.
use Rattle.std.specs.Prelude.{ℕ, zero, suc, ◌+◌, ◌-◌, ◌*◌, ◌%◌, ◌≤◌, ◌≡◌, ◌&&◌, List, [], ◌∷◌, map, ℤ, pos, negsuc, ◌+ℤ◌, ◌-ℤ◌, nat_abs, length, get_or}
use Rattle.bits.specs.Bits.{bit, num, changes}
use Rattle.encoder.specs.Encoder.{places}

-- ---- the shaft: where it stands is a whole number of quarter-steps, forward upward

-- a position, modulo 4
abbrev pub quarter : ℤ → ℕ
quarter (pos n) = n % 4
quarter (negsuc n) = 3 - n % 4

-- the pins at a position. "forward means phase A leads": forward they run 00, 10, 11, 01, with A written first
abbrev pub phase : ℤ → ℕ
phase p = get_or (0 ∷ 1 ∷ 3 ∷ 2 ∷ []) (quarter p) 0

-- "at most two quarter-steps from each to the next"
abbrev pub Near : List ℤ → Type 0
Near [] = Unit {0}
Near (p ∷ []) = Unit {0}
Near (p ∷ q ∷ ps) = (nat_abs (q -ℤ p) ≤ 2) × Near (q ∷ ps)

-- a motion, "a whole number for each of its pins records", fits the pins
abbrev pub Fits : List ℤ → List ℕ → Type 0
Fits ps vs = (map phase ps ≡ vs) × Near ps

-- the true travel: the last position less the first
abbrev pub travel : List ℤ → ℤ
travel [] = pos 0
travel (p ∷ ps) = get_or (p ∷ ps) (length ps) p -ℤ p

pub data Direction : Type 0 where
  forward still backward : Direction

abbrev pub direction : ℤ → Direction
direction (pos zero) = still
direction (pos (suc n)) = forward
direction (negsuc n) = backward

-- ---- what the pins tell

-- d: "how often both pins changed together"
abbrev pub doubles : List ℕ → ℕ
doubles [] = 0
doubles (v ∷ []) = 0
doubles (v ∷ w ∷ vs) = num (changes (bit 0 v) (bit 0 w) && changes (bit 1 v) (bit 1 w)) + doubles (w ∷ vs)

-- what pins count that are 0, 1 or 2 places forward of those before, or else one back: both changed is nothing
abbrev pub step_of : ℕ → ℤ
step_of places = get_or (pos 0 ∷ pos 1 ∷ pos 0 ∷ []) places (negsuc 0)

-- the counted steps
abbrev pub steps : List ℕ → ℤ
steps [] = pos 0
steps (v ∷ []) = pos 0
steps (v ∷ w ∷ vs) = step_of (places v w) +ℤ steps (w ∷ vs)

-- ---- gaps

-- a motion's gap, "one exact whole number": the counted steps minus the travel
abbrev pub gap_of : List ℕ → List ℤ → ℤ
gap_of vs ps = steps vs -ℤ travel ps

-- "4k - 2d"
abbrev pub gap : ℕ → ℕ → ℤ
gap d k = pos (4 * k) -ℤ pos (2 * d)
