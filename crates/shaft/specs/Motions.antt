-- What pins say of the motions that fit them: their gaps, and their direction. vs are the pins, one for each pins record.
-- Assumes nothing.
use Rattle.std.specs.Prelude.{ℕ, ◌*◌, ◌≤◌, ◌<◌, ◌≡◌, List, ℤ, nat_abs}
use Rattle.shaft.specs.Shaft.{Fits, travel, forward, backward, direction, doubles, steps, gap_of, gap}

-- the gaps are 4k - 2d, "k from 0 to d", and no others
pub record Gaps (vs : List ℕ) : Type 0 where
  -- A. for any motion "the gap is 4k - 2d for some k from 0 to d"
  pub every_motion : (ps : List ℤ) → Fits ps vs → (k : ℕ) × (k ≤ doubles vs) × (gap_of vs ps ≡ gap (doubles vs) k)
  -- B. "for every k from 0 to d some fitting motion has exactly that gap"
  pub every_gap : (k : ℕ) → k ≤ doubles vs → (ps : List ℤ) × Fits ps vs × (gap_of vs ps ≡ gap (doubles vs) k)

-- two fitting motions, one that does not go back and one that does not go forward, of which not both stand still
pub record Open (vs : List ℕ) : Type 0 where
  pub one : List ℤ
  pub other : List ℤ
  pub fit : Fits one vs × Fits other vs
  pub apart : (direction (travel one) ≡ backward → ⊥) × (direction (travel other) ≡ forward → ⊥)
  pub differ : direction (travel one) ≡ direction (travel other) → ⊥
  -- below 2d they are opposite
  pub opposite : nat_abs (steps vs) < 2 * doubles vs → (direction (travel one) ≡ forward) × (direction (travel other) ≡ backward)

-- whether the pins settle the direction of the travel: by the counted steps and 2d
pub record Sign (vs : List ℕ) : Type 0 where
  -- "if the counted steps exceed 2d in size, every fitting motion travels in their direction", and so does not stand still
  pub settled : 2 * doubles vs < nat_abs (steps vs) → (ps : List ℤ) → Fits ps vs → direction (travel ps) ≡ direction (steps vs)
  -- "with d = 0 the travel is the counted steps exactly"
  pub clean : doubles vs ≡ 0 → (ps : List ℤ) → Fits ps vs → travel ps ≡ steps vs
  -- "where the steps do not exceed 2d, two fitting motions of opposite (or zero) direction exist unless d is 0"
  pub unsettled : nat_abs (steps vs) ≤ 2 * doubles vs → 0 < doubles vs → Open vs
