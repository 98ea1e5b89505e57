-- Laws of truth values.
-- Assumes nothing.
use mathlib.Core.Path.{◌≡◌, refl, sym, ap, ◌∙◌}
use mathlib.Core.Bool.{Bool, true, false, not, ◌&&◌, ◌||◌, beq, true≢false, false≢true}

pub both_true : (a b : Bool) → (a && b) ≡ true → (a ≡ true) × (b ≡ true)
both_true true b e = (refl, e)
both_true false b e = absurd (false≢true e)

pub neither : (a b : Bool) → (a || b) ≡ false → (a ≡ false) × (b ≡ false)
neither true b e = absurd (true≢false e)
neither false b e = (refl, e)

pub nor : (a b : Bool) → a ≡ false → b ≡ false → (a || b) ≡ false
nor a b p q = ap (λ (x : Bool). x || b) p ∙ q

-- what is the same does not differ, and the other way
pub same : (a b : Bool) → not (beq a b) ≡ false → a ≡ b
same true true e = refl
same true false e = absurd (true≢false e)
same false true e = absurd (true≢false e)
same false false e = refl

pub same_not : (a b : Bool) → a ≡ b → not (beq a b) ≡ false
same_not true b e = ap (λ (x : Bool). not (beq true x)) (sym e)
same_not false b e = ap (λ (x : Bool). not (beq false x)) (sym e)
