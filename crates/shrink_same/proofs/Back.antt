-- What looking back says: among the records before, the last one first, there is the previous pins record, and between them are neither pins
-- of that encoder nor a write to its CNFG or its SELECT.
-- Assumes nothing.
use Prim.Native.Nat.{ℕ}
use mathlib.Core.Path.{◌≡◌, refl, ap, ◌∙◌}
use mathlib.Core.Logic.{◌↔◌}
use mathlib.Core.Bool.{Bool, true, false, not, cond, ◌&&◌, false≢true}
use mathlib.Core.List.{List, [], ◌∷◌, ◌++◌}
use lib.Dec.{eqb}
use borrow.Author.Tests.{eqb-true, eq-eqb, not-true}
use Rattle.laws.proofs.Truth.{both_true}
use Rattle.numbers.specs.Bytes.{le_of}
use Rattle.travel.specs.Stretch.{names}
use Rattle.shrink_rule.specs.Drops.{shows}
use Rattle.shrink_rule.specs.How.{writes}

abbrev pub Between : ℕ → ℕ → List (List ℕ) → Type 0
Between k i [] = Unit {0}
Between k i (p ∷ ps) = (names k 3 1 i p ≡ false) × (writes k i p ≡ false) × Between k i ps

pub record Previous (k i v : ℕ) (before : List (List ℕ)) : Type 0 where
  pub between : List (List ℕ)
  pub previous : List ℕ
  pub earlier : List (List ℕ)
  pub cut : before ≡ between ++ previous ∷ earlier
  pub pins : names k 3 1 i previous ≡ true
  pub says : le_of 8 previous 8 ≡ v
  pub quiet : Between k i between

module _ (k i v : ℕ) where
  only : (before : List (List ℕ)) → shows k i v before ≡ true → Previous k i v before
  unfolding shows
  only [] h = absurd (false≢true h)
  only (p ∷ ps) h = by (names k 3 1 i p) refl (only ps) h
    where
      by : (t : Bool) → names k 3 1 i p ≡ t → (shows k i v ps ≡ true → Previous k i v ps) → cond t (eqb (le_of 8 p 8) v) (not (writes k i p) && shows k i v ps) ≡ true → Previous k i v (p ∷ ps)
      by true e ih g = record { between = []; previous = p; earlier = ps; cut = refl; pins = e; says = eqb-true (le_of 8 p 8) v g; quiet = tt }
      by false e ih g =
          let b = both_true (not (writes k i p)) (shows k i v ps) g in
          let x = ih b.1 in
          record {
            between = p ∷ x.between;
            previous = x.previous;
            earlier = x.earlier;
            cut = ap (λ (l : List (List ℕ)). p ∷ l) x.cut;
            pins = x.pins;
            says = x.says;
            quiet = (e, not-true (writes k i p) b.0, x.quiet);
          }

  all : (between : List (List ℕ)) (p : List ℕ) (earlier : List (List ℕ)) → names k 3 1 i p ≡ true → le_of 8 p 8 ≡ v → Between k i between → shows k i v (between ++ p ∷ earlier) ≡ true
  unfolding shows
  all [] p earlier n e q = rw (n, eq-eqb (le_of 8 p 8) v e)
  all (x ∷ xs) p earlier n e q = rw (q.0, q.1) (all xs p earlier n e q.2)

pub looking_back : (k i v : ℕ) (before : List (List ℕ)) → (shows k i v before ≡ true) ↔ Previous k i v before
looking_back k i v before =
    (only k i v before, λ x. ap (shows k i v) x.cut ∙ all k i v x.between x.previous x.earlier x.pins x.says x.quiet)
