-- What the pins count and what the shaft travels differ by the gap: for any fitting motion, and for any gap by some motion.
-- Assumes nothing.
use mathlib.Core.Path.{◌≡◌, refl, sym, ap, ◌∙◌, subst}
use mathlib.Core.List.{List, [], ◌∷◌, map}
use Prim.Native.Nat.{ℕ, zero, suc, ◌+◌, ◌*◌, ◌%◌, ◌≤◌, ◌<◌}
use native.Mathlib.Omega.{arith}
use lib.Dec.{eqb}
use lib.IntN.{ℤ, pos, negsuc, ◌+ℤ◌, ◌-ℤ◌, +ℤ_idr, +ℤ_assoc, +ℤ_comm, +ℤ-neg_ℤ_cancel, -ℤ-+ℤ_cancel}
use Rattle.bits.specs.Bits.{num}
use Rattle.encoder.specs.Encoder.{place, places}
use Rattle.shaft.specs.Shaft.{quarter, phase, Near, doubles, step_of, steps}
use Rattle.shaft.proofs.Group.{shuffle}
use Rattle.shaft.proofs.Phase.{both, Small, back_of, counts, shown, place_place, place_lt, places_to, places_lt, both_is, quarter_lt, quarter_add, phase_is}

abbrev pub AllPins : List ℕ → Type 0
AllPins [] = Unit {0}
AllPins (v ∷ vs) = (v < 4) × AllPins vs

-- the last position
abbrev pub last_from : ℤ → List ℤ → ℤ
last_from p [] = p
last_from p (q ∷ ps) = last_from q ps

-- of the doubles, k went back
abbrev pub Balanced : ℕ → ℤ → List ℕ → List ℤ → ℕ → Type 0
Balanced v p vs ps k = p +ℤ steps (v ∷ vs) +ℤ pos (2 * doubles (v ∷ vs)) ≡ last_from p ps +ℤ pos (4 * k)

none : (v : ℕ) (p : ℤ) → Balanced v p [] [] 0
none v p = ap (λ (x : ℤ). x +ℤ pos 0) (+ℤ_idr p)

-- one move more, by m: the doubles that it shows, and the balance with it
module _ (v w : ℕ) (p q m : ℤ) (hv : v < 4) (hw : w < 4) (to : q ≡ p +ℤ m) (small : Small m) (shows : places v w ≡ quarter m) where
  double : num (both v w) ≡ num (eqb (quarter m) 2)
  double = both_is v w hv hw ∙ ap (λ (i : ℕ). num (eqb i 2)) shows

  pub back_within : back_of m ≤ num (both v w)
  back_within = omega (arith, (counts m small).within, double)

  pub more : (vs : List ℕ) (ps : List ℤ) (k : ℕ) → Balanced w q vs ps k → Balanced v p (w ∷ vs) (q ∷ ps) (back_of m + k)
  more vs ps k h =
      ap (λ (i : ℕ). p +ℤ (step_of i +ℤ steps (w ∷ vs)) +ℤ pos (2 * (num (both v w) + doubles (w ∷ vs)))) shows
      ∙ ap (λ (i : ℕ). p +ℤ (step_of (quarter m) +ℤ steps (w ∷ vs)) +ℤ pos i) (doubled (num (both v w)) (num (eqb (quarter m) 2)) (doubles (w ∷ vs)) double)
      ∙ shuffle ◌+ℤ◌ +ℤ_assoc +ℤ_comm p (step_of (quarter m)) (steps (w ∷ vs)) (pos (2 * num (eqb (quarter m) 2))) (pos (2 * doubles (w ∷ vs))) m (last_from q ps) (pos (4 * k)) (pos (4 * back_of m)) (counts m small).sum
      (ap (λ (y : ℤ). y +ℤ steps (w ∷ vs) +ℤ pos (2 * doubles (w ∷ vs))) (sym to) ∙ h)
      ∙ ap (λ (i : ℕ). last_from q ps +ℤ pos i) (fourfold (back_of m) k)
    where
      doubled : (a b d : ℕ) → a ≡ b → 2 * (a + d) ≡ 2 * b + 2 * d
      doubled a b d e = omega arith

      fourfold : (a b : ℕ) → 4 * a + 4 * b ≡ 4 * (a + b)
      fourfold a b = omega arith

phase_lt : (p : ℤ) (v : ℕ) → phase p ≡ v → v < 4
phase_lt p v e = subst (λ (n : ℕ). n < 4) (sym (phase_is p) ∙ e) (place_lt (quarter p) (quarter_lt p))

-- every fitting motion is balanced, by the doubles that went back
pub balance : (v : ℕ) (p : ℤ) (vs : List ℕ) (ps : List ℤ) → map phase (p ∷ ps) ≡ v ∷ vs → Near (p ∷ ps) → (k : ℕ) × (k ≤ doubles (v ∷ vs)) × Balanced v p vs ps k
balance v p [] [] e n = (0, omega arith, none v p)
balance v p [] (q ∷ ps) e n = let z : ◌≡◌ {A = ℕ} 0 1 = cc in absurd (omega arith)
balance v p (w ∷ vs) [] e n = let z : ◌≡◌ {A = ℕ} 0 1 = cc in absurd (omega arith)
balance v p (w ∷ vs) (q ∷ ps) e n =
    let m = q -ℤ p in
    let at_p : phase p ≡ v = cc in
    let at-q : phase q ≡ w = cc in
    let r = balance w q vs ps (cc) n.1 in
    let hv = phase_lt p v at_p in
    let hw = phase_lt q w at-q in
    let to : q ≡ p +ℤ m = sym (+ℤ_comm p m ∙ -ℤ-+ℤ_cancel q p) in
    let shows : places v w ≡ quarter m = subst (λ (a : ℕ). places a w ≡ quarter m) at_p (subst (λ (b : ℕ). places (phase p) b ≡ quarter m) at-q (shown p q m to)) in
    (back_of m + r.0, omega (arith, back_within v w p q m hv hw to n.0 shows, r.1), more v w p q m hv hw to n.0 shows vs ps r.0 r.2)

-- a move that the pins show as j places forward, with the wanted number of doubles back left for the rest
record Chosen (j k d : ℕ) : Type 0 where
  m : ℤ
  small : Small m
  shows : j ≡ quarter m
  rest : ℕ
  sum : back_of m + rest ≡ k
  left : rest ≤ d

choose : (j k d : ℕ) → j < 4 → k ≤ num (eqb j 2) + d → Chosen j k d
choose zero k d h l = record { m = pos 0; small = omega arith; shows = refl; rest = k; sum = omega arith; left = omega arith }
choose (suc zero) k d h l = record { m = pos 1; small = omega arith; shows = refl; rest = k; sum = omega arith; left = omega arith }
choose (suc (suc zero)) zero d h l = record { m = pos 2; small = omega arith; shows = refl; rest = 0; sum = omega arith; left = omega arith }
choose (suc (suc zero)) (suc k) d h l = record { m = negsuc 1; small = omega arith; shows = refl; rest = k; sum = omega arith; left = omega arith }
choose (suc (suc (suc zero))) k d h l = record { m = negsuc 0; small = omega arith; shows = refl; rest = k; sum = omega arith; left = omega arith }
choose (suc (suc (suc (suc j)))) k d h l = absurd (omega arith)

front : (x y : ℕ) (xs ys : List ℕ) → x ≡ y → xs ≡ ys → x ∷ xs ≡ y ∷ ys
front x y xs ys e f = cc

-- for every number of doubles that went back there is a motion, from any place that shows the first pins
pub reach : (v : ℕ) (p : ℤ) (vs : List ℕ) → phase p ≡ v → AllPins vs → (k : ℕ) → k ≤ doubles (v ∷ vs)
    → (ps : List ℤ) × (map phase (p ∷ ps) ≡ v ∷ vs) × Near (p ∷ ps) × Balanced v p vs ps k
reach v p [] e a k h =
    let zero_is : 0 ≡ k = omega arith in
    ([], ap (λ (u : ℕ). u ∷ []) e, tt, subst (λ (i : ℕ). Balanced v p [] [] i) zero_is (none v p))
reach v p (w ∷ vs) e a k h =
    let hv = phase_lt p v e in
    let c = choose (places v w) k (doubles (w ∷ vs)) (places_lt v w) (omega (arith, h, both_is v w hv a.0)) in
    let q = p +ℤ c.m in
    let r = reach w q vs (arrives c.m hv c.shows) a.1 c.rest c.left in (
      q ∷ r.0,
      front (phase p) v (phase q ∷ map phase r.0) (w ∷ vs) e r.1,
      (near c.m c.small, r.2),
      subst (λ (i : ℕ). Balanced v p (w ∷ vs) (q ∷ r.0) i) c.sum (more v w p q c.m hv a.0 refl c.small c.shows vs r.0 c.rest r.3),
    )
  where
    arrives : (m : ℤ) → v < 4 → places v w ≡ quarter m → phase (p +ℤ m) ≡ w
    arrives m hv shows =
        phase_is (p +ℤ m)
        ∙ ap place (quarter_add p m)
        ∙ ap (λ (i : ℕ). place ((quarter p + i) % 4)) (sym shows)
        ∙ ap (λ (i : ℕ). place ((i + places v w) % 4)) (sym (place_place (quarter p) (quarter_lt p)) ∙ ap place (sym (phase_is p) ∙ e))
        ∙ places_to v w hv a.0

    near : (m : ℤ) → Small m → Small (p +ℤ m -ℤ p)
    near m = subst Small (sym (ap (λ (y : ℤ). y -ℤ p) (+ℤ_comm p m) ∙ +ℤ-neg_ℤ_cancel m p))
