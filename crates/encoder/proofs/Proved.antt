-- The facts of specs/Facts.antt.
-- Assumes nothing.
use mathlib.Core.Path.{◌≡◌, refl, ap, ◌∙◌}
use mathlib.Core.Bool.{Bool, true, false, not, cond, ◌||◌, or-true}
use mathlib.Core.List.{List, [], ◌∷◌}
use Prim.Native.Nat.{ℕ, ◌+◌, ◌%◌, ◌<◌}
use native.Mathlib.Omega.{arith}
use lib.Dec.{eqb}
use borrow.Author.Tests.{eq-eqb, ne_eqb, eqb-true, eqb-false}
use lib.IntN.{ℤ, pos, suc_ℤ, ◌+ℤ◌, +ℤ-suc_ℤ, +ℤ_idr}
use Rattle.encoder.specs.declared.Encoder.{Encoder}
use Rattle.encoder.specs.Encoder.{rst, on_pins, on_cnfg}
use Rattle.encoder.specs.Facts.{Encoders, played}
use Rattle.encoder_count.specs.Count.{pattern, wrap}
use Rattle.encoder_count.proofs.Wrap.{pattern_lt, pattern_suc, pattern_wrap}
use Rattle.encoder_stat.proofs.Marks.{passes_unsigned, passes_signed}
use Rattle.encoder.proofs.Counting.{still, pins_cnfg}

-- a count of 0 stays while RST is 1
reset : (vs : List ℕ) (e : Encoder) → rst e.cnfg ≡ true → e.count ≡ pos 0 → ((played vs e).count ≡ pos 0) × ((played vs e).stat ≡ e.stat)
reset [] e one zero = (zero, refl)
reset (v ∷ vs) e one zero =
    let s = still v e (ap (λ (b : Bool). not e.seen || b) one ∙ or-true (not e.seen)) in
    let t = reset vs (on_pins v e) (ap rst (pins_cnfg v e) ∙ one) (s.0 ∙ zero) in
    (t.0, t.1 ∙ s.1)

pub encoders : Encoders
encoders = record {
  first_pins = λ v e unseen. still v e (ap (λ (b : Bool). not b || rst e.cnfg) unseen);
  held = λ v e one vs. reset vs (on_cnfg v e) one (ap (λ (b : Bool). cond b (pos 0) e.count) one);
}

-- ---- a step up and the step back down from there pass the same border or none

-- one up from the last pattern is 0, and from one below the middle the middle
border : (p q : ℕ) → p < 4294967296 → q ≡ (p + 1) % 4294967296 → (eqb q 0 ≡ eqb p 4294967295) × (eqb q 2147483648 ≡ eqb p 2147483647)
border p q h e = (same q 0 p 4294967295 (λ x. omega arith) (λ x. omega arith), same q 2147483648 p 2147483647 (λ x. omega arith) (λ x. omega arith))
  where
    same : (a b c d : ℕ) → (a ≡ b → c ≡ d) → (c ≡ d → a ≡ b) → eqb a b ≡ eqb c d
    same a b c d f g = by (eqb c d) refl
      where
        by : (t : Bool) → eqb c d ≡ t → eqb a b ≡ t
        by true x = eq-eqb a b (g (eqb-true c d x))
        by false x = ne_eqb a b (λ y. eqb-false c d x (f y))

same_border : (n : ℤ) → (passes_unsigned true (pattern (wrap (n +ℤ pos 1))) ≡ passes_unsigned false (pattern n))
    × (passes_signed true (pattern (wrap (n +ℤ pos 1))) ≡ passes_signed false (pattern n))
same_border n =
    border (pattern n) _ (pattern_lt n) (pattern_wrap (n +ℤ pos 1) ∙ ap pattern (+ℤ-suc_ℤ n (pos 0) ∙ ap suc_ℤ (+ℤ_idr n)) ∙ pattern_suc n)
