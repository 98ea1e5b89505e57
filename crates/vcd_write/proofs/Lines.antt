-- Lines put one after the other. Assumes nothing.
use mathlib.Core.Path.{◌≡◌, sym, ap, ◌∙◌}
use mathlib.Core.Bool.{Bool, true, false, ◌&&◌, cond}
use mathlib.Core.List.{List, [], ◌∷◌, ◌++◌, append-nil}
use Prim.Native.Nat.{ℕ, ◌+◌, ◌*◌, ◌/◌, ◌%◌, ◌<◌}
use lib.Dec.{eqb, ltb}
use Rattle.decimal.specs.Digits.{digits_of}
use Rattle.decimal.specs.Put.{Put}
use Rattle.decimal.proofs.Puts.{put_nothing, put_then}
use Rattle.vcd.specs.declared.Line.{Line}
use Rattle.vcd.specs.declared.Line.TheVariants.{Time, Change}
use Rattle.vcd.specs.Lines.{code_of, print_of, text_of}
use Rattle.vcd.specs.Dump.{changes_of, timed}
use Rattle.vcd.proofs.Heart.{some_change, no_change}
use Rattle.vcd.proofs.Bound.{text_append}

pub lines_then : (a b c : List ℕ) (ls ms : List Line) (p q r : ℕ) → Put a p (text_of ls) b q → Put b q (text_of ms) c r → Put a p (text_of (ls ++ ms)) c r
lines_then a b c ls ms p q r x y = rw text_append (put_then a b c (text_of ls) (text_of ms) p q r x y)

-- ---- one line

module _ (out a b c : List ℕ) (at p q r : ℕ) where
  pub time_put : (t : ℕ) → Put out at (35 ∷ []) a p → Put a p (digits_of t) b q → Put b q (10 ∷ []) c r → Put out at (text_of (Time t ∷ [])) c r
  unfolding text_of print_of
  time_put t x y z = put_then out a c (35 ∷ []) (digits_of t ++ 10 ∷ []) at p r x (put_then a b c (digits_of t) (10 ∷ []) p q r y z)

-- ---- the changes

module _ (out : List ℕ) (at time : ℕ) (told : Bool) where
  pub stamp_none : told ≡ true → Put out at (text_of (cond told [] (Time time ∷ []))) out at
  unfolding text_of
  stamp_none e = rw e (put_nothing out at)

  pub stamp_some : (out' : List ℕ) (r : ℕ) → told ≡ false → Put out at (text_of (Time time ∷ [])) out' r → Put out at (text_of (cond told [] (Time time ∷ []))) out' r
  stamp_some out' r e x = rw e x

module _ (out : List ℕ) (at w b : ℕ) (same : Bool) where
  pub change_none : same ≡ true → Put out at (text_of (cond same [] (Change w b ∷ []))) out at
  unfolding text_of
  change_none e = rw e (put_nothing out at)

  pub change_some : (out' : List ℕ) (r : ℕ) → same ≡ false → Put out at ((48 + b) ∷ code_of w ∷ 10 ∷ []) out' r → Put out at (text_of (cond same [] (Change w b ∷ []))) out' r
  unfolding text_of print_of
  change_some out' r e x = rw e x

module _ (out : List ℕ) (at time e p v : ℕ) (told : Bool) where
  pub changes_none : p ≡ v → v < 4 → Put out at (text_of (timed told time (changes_of e p v))) out at
  unfolding text_of timed
  changes_none q h = rw (q, no_change e v h) (put_nothing out at)

  module _ (n : p ≡ v → ⊥) (there : p < 5) (small : v < 4) (a b c : List ℕ) (i j k : ℕ) where
    pub changes_put : Put out at (text_of (cond told [] (Time time ∷ []))) a i
        → Put a i (text_of (cond (ltb p 4 && eqb (p % 2) (v % 2)) [] (Change (2 * e) (v % 2) ∷ []))) b j
        → Put b j (text_of (cond (ltb p 4 && eqb (p / 2) (v / 2)) [] (Change (2 * e + 1) (v / 2) ∷ []))) c k
        → Put out at (text_of (timed told time (changes_of e p v))) c k
    unfolding changes_of
    changes_put x y z =
        let same : timed told time (changes_of e p v) ≡ cond told [] (Time time ∷ []) ++ changes_of e p v = (sym (append-nil (timed told time (changes_of e p v))) ∙ some_change e p v there small n told time [] ∙ ap (λ (ls : List Line). cond told [] (Time time ∷ []) ++ ls) (append-nil (changes_of e p v))) in
        rw same
        (lines_then out a c (cond told [] (Time time ∷ [])) (changes_of e p v) at i k x
        (lines_then a b c (cond (ltb p 4 && eqb (p % 2) (v % 2)) [] (Change (2 * e) (v % 2) ∷ [])) (cond (ltb p 4 && eqb (p / 2) (v / 2)) [] (Change (2 * e + 1) (v / 2) ∷ [])) i j k y z))
