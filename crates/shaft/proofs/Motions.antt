-- The facts of specs/Motions.antt, of any pins that are 0 to 3.
-- Assumes nothing.
use mathlib.Core.Path.{◌≡◌, refl, sym, ap, ◌∙◌}
use mathlib.Core.List.{List, [], ◌∷◌}
use Prim.Native.Nat.{ℕ, zero, suc, ◌*◌, ◌≤◌, ◌<◌}
use native.Mathlib.Omega.{arith}
use lib.ListN.{length, get_or}
use lib.IntN.{ℤ, pos, neg_ℤ, nat_abs, ◌+ℤ◌, ◌-ℤ◌, +ℤ_idr, +ℤ_assoc, +ℤ_comm, +ℤ_invr}
use Rattle.encoder.specs.Encoder.{place}
use Rattle.shaft.specs.Shaft.{Fits, travel, doubles, steps, gap_of, gap}
use Rattle.shaft.specs.Motions.{Gaps, Open, Sign}
use Rattle.shaft.proofs.Group.{travels, crossed}
use Rattle.shaft.proofs.Phase.{starts}
use Rattle.shaft.proofs.Balance.{AllPins, last_from, Balanced, balance, reach}
use Rattle.shaft.proofs.Size.{even, beyond, top, bottom, far, ends, same, never_back, never_forward}

-- ---- a motion's travel and the counted steps, of d doubles k back

abbrev Tied : List ℕ → List ℤ → ℕ → Type 0
Tied vs ps k = travel ps +ℤ pos (4 * k) ≡ steps vs +ℤ pos (2 * doubles vs)

last_is : (p d : ℤ) (ps : List ℤ) → get_or (p ∷ ps) (length ps) d ≡ last_from p ps
last_is p d [] = refl
last_is p d (q ∷ ps) = last_is q d ps

tied : (v : ℕ) (p : ℤ) (vs : List ℕ) (ps : List ℤ) (k : ℕ) → Balanced v p vs ps k → Tied (v ∷ vs) (p ∷ ps) k
tied v p vs ps k b =
    ap (λ (z : ℤ). z -ℤ p +ℤ pos (4 * k)) (last_is p p ps)
    ∙ travels ◌+ℤ◌ +ℤ_assoc +ℤ_comm (pos 0) neg_ℤ +ℤ_idr +ℤ_invr p (steps (v ∷ vs)) (pos (2 * doubles (v ∷ vs))) (last_from p ps) (pos (4 * k)) b

motion_tied : (vs : List ℕ) (ps : List ℤ) → Fits ps vs → (k : ℕ) × (k ≤ doubles vs) × Tied vs ps k
motion_tied [] [] f = (0, omega arith, refl)
motion_tied [] (p ∷ ps) f = let e = f.0 in let z : ◌≡◌ {A = ℕ} 0 1 = cc in absurd (omega arith)
motion_tied (v ∷ vs) [] f = let e = f.0 in let z : ◌≡◌ {A = ℕ} 0 1 = cc in absurd (omega arith)
motion_tied (v ∷ vs) (p ∷ ps) f = let b = balance v p vs ps f.0 f.1 in (b.0, b.1, tied v p vs ps b.0 b.2)

gap_tied : (vs : List ℕ) → AllPins vs → (k : ℕ) → k ≤ doubles vs → (ps : List ℤ) × Fits ps vs × Tied vs ps k
gap_tied [] a zero h = ([], (refl, tt), refl)
gap_tied [] a (suc k) h = absurd (omega arith)
gap_tied (v ∷ vs) a k h =
    let r = reach v (pos (place v)) vs (starts v a.0) a.1 k h in
    (pos (place v) ∷ r.0, (r.1, r.2), tied v (pos (place v)) vs r.0 k r.3)

-- ---- the gaps

exact : (vs : List ℕ) (ps : List ℤ) (k : ℕ) → Tied vs ps k → gap_of vs ps ≡ gap (doubles vs) k
exact vs ps k = crossed ◌+ℤ◌ +ℤ_assoc +ℤ_comm (pos 0) neg_ℤ +ℤ_idr +ℤ_invr (travel ps) (pos (4 * k)) (steps vs) (pos (2 * doubles vs))

pub gaps : (vs : List ℕ) → AllPins vs → Gaps vs
gaps vs a = record {
  every_motion = λ ps f. let m = motion_tied vs ps f in (m.0, m.1, exact vs ps m.0 m.2);
  every_gap = λ k h. let m = gap_tied vs a k h in (m.0, m.1, exact vs m.0 k m.2);
}

-- ---- the sign

pub sign : (vs : List ℕ) → AllPins vs → Sign vs
sign vs a = record {
  settled = λ l ps f.
      let m = motion_tied vs ps f in
      beyond (doubles vs) (travel ps) (steps vs) m.0 m.1 l (even (travel ps) (steps vs) (4 * m.0) (2 * doubles vs) m.2);
  clean = λ none ps f. let m = motion_tied vs ps f in no_gap (doubles vs) m.0 (travel ps) (steps vs) none m.1 m.2;
  unsettled = two;
}
  where
    no_gap : (d k : ℕ) (t s : ℤ) → d ≡ 0 → k ≤ d → t +ℤ pos (4 * k) ≡ s +ℤ pos (2 * d) → t ≡ s
    no_gap d k t s none h e =
        let k-none : 4 * k ≡ 0 = omega arith in
        let d-none : 2 * d ≡ 0 = omega arith in
        sym (+ℤ_idr t) ∙ rw (k-none, d-none) at e ∙ +ℤ_idr s

    two : nat_abs (steps vs) ≤ 2 * doubles vs → 0 < doubles vs → Open vs
    two l some =
        let d = doubles vs in
        let x = gap_tied vs a 0 (omega arith) in
        let y = gap_tied vs a d (omega arith) in
        let t = travel x.0 in
        let u = travel y.0 in
        let high = even t (steps vs) 0 (2 * d) x.2 in
        let low = even u (steps vs) (4 * d) (2 * d) y.2 in
        let up = top d t u (steps vs) high low l in
        let down = bottom d t u (steps vs) high low l in
        record {
          one = x.0;
          other = y.0;
          fit = (x.1, y.1);
          apart = (never_back t up, never_forward u down);
          differ = λ e. omega (arith, far d t u (steps vs) high low (same t u up down e));
          opposite = ends d t u (steps vs) high low;
        }
