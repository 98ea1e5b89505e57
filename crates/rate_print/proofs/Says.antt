-- What the answers about rates lean on: words compared, and an answer's cases. Assumes nothing.
use mathlib.Core.Path.{◌≡◌, refl, ap, sym, ◌∙◌}
use mathlib.Core.Bool.{◌&&◌, Bool, true, false, cond}
use mathlib.Core.List.{List, [], ◌∷◌}
use Prim.Native.Nat.{ℕ}
use lib.Dec.{eqb}
use lib.Pointwise.{pointwise}
use Rattle.laws.proofs.Cases.{taken, left}
use Rattle.rate_print.specs.Said.{same}

-- two words are the same, as `==` has it
as_same : (s t : List ℕ) → pointwise eqb s t ≡ same s t
unfolding same
as_same [] [] = refl
as_same [] (b ∷ t) = refl
as_same (a ∷ s) [] = refl
as_same (a ∷ s) (b ∷ t) = ap (λ (r : Bool). eqb a b && r) (as_same s t)

module _ {A : Type 0} (r : Bool) (s w t : List ℕ) (q x y : A) (told : r ≡ pointwise eqb s w) (is : w ≡ t) where
  pub asks : r ≡ true → q ≡ x → q ≡ cond (same s t) x y
  asks h = taken (same s t) x y q (sym (rw is at told ∙ as_same s t) ∙ h)

  pub asks_else : r ≡ false → q ≡ y → q ≡ cond (same s t) x y
  asks_else h = left (same s t) x y q (sym (rw is at told ∙ as_same s t) ∙ h)
