-- The same pins again change nothing, and neither does a wait of no ticks. Assumes nothing.
use mathlib.Core.Path.{◌≡◌, refl, sym, ap, ◌∙◌}
use mathlib.Core.Bool.{Bool, true, false, not, cond, ◌&&◌, ◌||◌}
use mathlib.Core.List.{List, [], ◌∷◌, map}
use Prim.Native.Nat.{ℕ, suc, ◌+◌, ◌-◌, ◌%◌}
use native.Mathlib.Omega.{arith}
use Rattle.bits.specs.Bits.{bit, rises}
use Rattle.laws.specs.Each.{map_from}
use Rattle.edition.specs.declared.Edition.{Edition}
use Rattle.encoder.specs.declared.Encoder.{Encoder}
use Rattle.encoder.specs.Encoder.{en, rst, mode, kept, place, places, quadrature, clocked, counted, on_pins}
use Rattle.encoder.proofs.Counting.{pins_stored}
use Rattle.pwm.specs.declared.Pwm.{Pwm}
use Rattle.pwm.specs.Pwm as pwm
use Rattle.select.specs.Select.{pwm_routed}
use Rattle.bank.specs.declared.Bank.{Bank}
use Rattle.bank.specs.Bank.{tick_routed, on_ticks}

both_ways : {X : Type 0} (t : Bool) (x y z : X) → x ≡ z → y ≡ z → cond t x y ≡ z
both_ways true x y z p q = p
both_ways false x y z p q = q

module _ (v : ℕ) (e : Encoder) (at : e.pins ≡ v) (seen : e.seen ≡ true) where
  kept_again : kept v e ≡ e
  kept_again = λ i. record { count = e.count; cnfg = e.cnfg; stat = e.stat; pins = sym at i; seen = sym seen i }

  no_edge : clocked v e ≡ e
  no_edge = ap (λ (p : ℕ). cond (rises (bit 0 p) (bit 0 v)) (counted (bit 1 v) v e) (kept v e)) at ∙ by (bit 0 v)
    where
      by : (b : Bool) → cond (not b && b) (counted (bit 1 v) v e) (kept v e) ≡ e
      by true = kept_again
      by false = kept_again

  no_step : quadrature (places e.pins v) v e ≡ e
  no_step = ap (λ (p : ℕ). quadrature (places p v) v e) at ∙ ap (λ (n : ℕ). quadrature n v e) (none (place v)) ∙ kept_again
    where
      none : (p : ℕ) → (4 + p - p) % 4 ≡ 0
      none p = let h : 4 + p - p ≡ 4 = omega arith in ap (λ (n : ℕ). n % 4) h

  pins_again : on_pins v e ≡ e
  pins_again = both_ways (not (en e.cnfg)) e _ e refl
      (both_ways (not e.seen || rst e.cnfg) (kept v e) _ e kept_again (both_ways (mode e.cnfg) (clocked v e) (quadrature (places e.pins v) v e) e no_edge no_step))

pub pins_twice : (v : ℕ) (e : Encoder) → on_pins v (on_pins v e) ≡ on_pins v e
pins_twice v e = by (en e.cnfg) refl
  where
    by : (t : Bool) → en e.cnfg ≡ t → on_pins v (on_pins v e) ≡ on_pins v e
    by true h = let p = pins_stored v e h in pins_again v (on_pins v e) p.0 p.1
    by false h = ap (on_pins v) (ap (λ (t : Bool). cond (not t) e (cond (not e.seen || rst e.cnfg) (kept v e) (cond (mode e.cnfg) (clocked v e) (quadrature (places e.pins v) v e)))) h)

-- ---- no ticks

no_ticks : (f : ℕ → Pwm → Pwm) → ((k : ℕ) (p : Pwm) → f k p ≡ p) → (k : ℕ) (l : List Pwm) → map_from f k l ≡ l
unfolding map_from
no_ticks f h k [] = refl
no_ticks f h k (p ∷ l) = ap (λ (q : Pwm). q ∷ map_from f (suc k) l) (h k p) ∙ ap (λ (q : List Pwm). p ∷ q) (no_ticks f h (suc k) l)

pub not_ticked : (o : Edition) (b : Bank) → on_ticks o 0 b ≡ b
unfolding pwm.waited
not_ticked o b =
    ap {B = Bank} (λ (ps : List Pwm). record { select = b.select; encoders = b.encoders; pwms = ps; i2c = b.i2c })
    (no_ticks (tick_routed o b.select 0) (λ k p. both_ways (pwm_routed o.port b.select k) p p p refl refl) 0 b.pwms)

pub map_itself : (f : Bank → Bank) → ((b : Bank) → f b ≡ b) → (l : List Bank) → map f l ≡ l
map_itself f h [] = refl
map_itself f h (b ∷ l) = ap (λ (c : Bank). c ∷ map f l) (h b) ∙ ap (λ (m : List Bank). b ∷ m) (map_itself f h l)
