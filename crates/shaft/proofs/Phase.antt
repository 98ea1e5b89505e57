-- A move of at most two quarter-steps, by what the pins show of it.
-- Assumes nothing.
use mathlib.Core.Path.{◌≡◌, refl, ap, ◌∙◌}
use mathlib.Core.Bool.{Bool, ◌&&◌}
use Prim.Native.Nat.{ℕ, zero, suc, ◌+◌, ◌*◌, ◌%◌, ◌≤◌, ◌<◌}
use native.Mathlib.Omega.{arith}
use mathlib.Core.List.{List, [], ◌∷◌}
use lib.ListN.{replicate, get_or}
use lib.Dec.{T, eqb, eqb→eq, ltb, ltb→lt}
use lib.IntN.{ℤ, pos, negsuc, nat_abs, suc_ℤ, pred_ℤ, ◌+ℤ◌, +ℤ-suc_ℤ, +ℤ-pred_ℤ, +ℤ_idr}
use Rattle.laws.proofs.Table.{every, at}
use Rattle.bits.specs.Bits.{bit, num, changes}
use Rattle.encoder.specs.Encoder.{place, places}
use Rattle.shaft.specs.Shaft.{quarter, phase, step_of}

-- ---- a test at each pair of numbers below 4

abbrev pub four : List ℕ
four = replicate 4 0

pub square : (f : ℕ → ℕ → Bool) → T (every (λ a _. every (λ b _. f a b) 0 four) 0 four) → (a b : ℕ) → a < 4 → b < 4 → T (f a b)
square f t a b h k = at (λ b _. f a b) four (at (λ a _. every (λ b _. f a b) 0 four) four t a h) b k

-- and at each number
line : (f : ℕ → Bool) → T (every (λ a _. f a) 0 four) → (a : ℕ) → a < 4 → T (f a)
line f t a h = at (λ a _. f a) four t a h

-- ---- the run of the pins: the place of pins and the pins at a place are the same numbers

pub place_place : (a : ℕ) → a < 4 → place (place a) ≡ a
place_place a h = eqb→eq (place (place a)) a (line (λ a. eqb (place (place a)) a) tt a h)

pub place_lt : (a : ℕ) → a < 4 → place a < 4
place_lt a h = ltb→lt (place a) 4 (line (λ a. ltb (place a) 4) tt a h)

-- j places on, the pins are j places forward
pub places_on : (a j : ℕ) → a < 4 → j < 4 → places (place a) (place ((a + j) % 4)) ≡ j
places_on a j h k =
    eqb→eq (places (place a) (place ((a + j) % 4))) j (square (λ a j. eqb (places (place a) (place ((a + j) % 4))) j) tt a j h k)

-- as many places forward of the old pins are the new pins
pub places_to : (v w : ℕ) → v < 4 → w < 4 → place ((place v + places v w) % 4) ≡ w
places_to v w h k =
    eqb→eq (place ((place v + places v w) % 4)) w (square (λ v w. eqb (place ((place v + places v w) % 4)) w) tt v w h k)

pub places_lt : (v w : ℕ) → places v w < 4
places_lt v w = omega arith

-- both pins changed: two places on
abbrev pub both : ℕ → ℕ → Bool
both v w = changes (bit 0 v) (bit 0 w) && changes (bit 1 v) (bit 1 w)

pub both_is : (v w : ℕ) → v < 4 → w < 4 → num (both v w) ≡ num (eqb (places v w) 2)
both_is v w h k =
    eqb→eq (num (both v w)) (num (eqb (places v w) 2)) (square (λ v w. eqb (num (both v w)) (num (eqb (places v w) 2))) tt v w h k)

-- a position that shows the pins v
pub starts : (v : ℕ) → v < 4 → phase (pos (place v)) ≡ v
starts v h = eqb→eq (phase (pos (place v))) v (line (λ v. eqb (phase (pos (place v))) v) tt v h)

-- ---- the shaft

pub quarter_lt : (p : ℤ) → quarter p < 4
quarter_lt (pos n) = omega arith
quarter_lt (negsuc n) = omega arith

-- the shaft's pins are those of the encoder's run
pub phase_is : (p : ℤ) → phase p ≡ place (quarter p)
phase_is p =
    eqb→eq (phase p) (place (quarter p))
    (line (λ a. eqb (get_or (0 ∷ 1 ∷ 3 ∷ 2 ∷ []) a 0) (place a)) tt (quarter p) (quarter_lt p))

pub quarter_suc : (p : ℤ) → quarter (suc_ℤ p) ≡ (quarter p + 1) % 4
quarter_suc (pos n) = omega arith
quarter_suc (negsuc zero) = refl
quarter_suc (negsuc (suc n)) = omega arith

pub quarter_pred : (p : ℤ) → quarter (pred_ℤ p) ≡ (quarter p + 3) % 4
quarter_pred (pos zero) = refl
quarter_pred (pos (suc n)) = omega arith
quarter_pred (negsuc n) = omega arith

pub quarter_add : (p m : ℤ) → quarter (p +ℤ m) ≡ (quarter p + quarter m) % 4
quarter_add p (pos zero) = ap quarter (+ℤ_idr p) ∙ omega (arith, quarter_lt p)
quarter_add p (pos (suc n)) =
    ap quarter (+ℤ-suc_ℤ p (pos n)) ∙ quarter_suc (p +ℤ pos n) ∙ ap (λ (a : ℕ). (a + 1) % 4) (quarter_add p (pos n)) ∙ omega arith
quarter_add p (negsuc zero) = ap quarter (+ℤ-pred_ℤ p (pos 0) ∙ ap pred_ℤ (+ℤ_idr p)) ∙ quarter_pred p
quarter_add p (negsuc (suc n)) =
    ap quarter (+ℤ-pred_ℤ p (negsuc n)) ∙ quarter_pred (p +ℤ negsuc n) ∙ ap (λ (a : ℕ). (a + 3) % 4) (quarter_add p (negsuc n)) ∙ omega arith

-- ---- a move by m quarter-steps, at most two

abbrev pub Small : ℤ → Type 0
Small m = nat_abs m ≤ 2

-- 1 at a double that goes back
abbrev pub back_of : ℤ → ℕ
back_of (pos n) = 0
back_of (negsuc n) = n

-- what it counts, with 2 for a double
pub record Counts (m : ℤ) : Type 0 where
  pub within : back_of m ≤ num (eqb (quarter m) 2)
  pub sum : step_of (quarter m) +ℤ pos (2 * num (eqb (quarter m) 2)) ≡ m +ℤ pos (4 * back_of m)

pub counts : (m : ℤ) → Small m → Counts m
counts (pos zero) h = record { within = omega arith; sum = refl }
counts (pos (suc zero)) h = record { within = omega arith; sum = refl }
counts (pos (suc (suc zero))) h = record { within = omega arith; sum = refl }
counts (pos (suc (suc (suc n)))) h = absurd (omega arith)
counts (negsuc zero) h = record { within = omega arith; sum = refl }
counts (negsuc (suc zero)) h = record { within = omega arith; sum = refl }
counts (negsuc (suc (suc n))) h = absurd (omega arith)

-- and what its pins show
pub shown : (p q m : ℤ) → q ≡ p +ℤ m → places (phase p) (phase q) ≡ quarter m
shown p q m to =
    ap (λ (a : ℕ). places a (phase q)) (phase_is p)
    ∙ ap (λ (b : ℕ). places (place (quarter p)) b) (phase_is q ∙ ap place (ap quarter to ∙ quarter_add p m))
    ∙ places_on (quarter p) (quarter m) (quarter_lt p) (quarter_lt m)
