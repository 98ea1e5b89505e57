-- The records that go over all channels of a kind: before each channel the first i have been gone over.
-- Assumes nothing.
use mathlib.Core.Path.{◌≡◌, refl, sym, ap, ◌∙◌}
use mathlib.Core.List.{List, [], ◌∷◌}
use Prim.Native.Nat.{ℕ, zero, suc, ◌+◌, ◌*◌, ◌/◌, ◌%◌, ◌^◌, ◌≤◌, ◌<◌}
use mathlib.Core.Bool.{Bool, cond}
use native.Mathlib.Omega.{arith}
use native.Mathlib.Decide.{dec_le}
use native.Mathlib.Nat.{div-div-eq-div-mul, pow-suc}
use lib.Dec.{eqb}
use borrow.Author.Tests.{eq-eqb, ne_eqb}
use lib.ListN.{length, get_or, set}
use Rattle.laws.proofs.Each.{front, front_none, front_more, front_all, front_behind}
use Rattle.edition.specs.declared.Edition.{Edition}
use Rattle.encoder.specs.declared.Encoder.{Encoder}
use Rattle.encoder.specs.Encoder as encoder
use Rattle.pwm.specs.declared.Pwm.{Pwm}
use Rattle.pwm.specs.Pwm as pwm
use Rattle.pwm.specs.Facts.{Short}
use Rattle.select.specs.Select.{pwm_routed}
use Rattle.select.specs.How.{pwm_pins}
use Rattle.select.proofs.Routes.{routed_bit, pins_small}
use Rattle.bank.specs.declared.Bank.{Bank}
use Rattle.bank.proofs.Full.{Full}
use Rattle.bank.specs.Bank.{reroute, on_select, tick_routed, on_ticks}

abbrev pub with_encoders_lem : Bank → List Encoder → Bank
with_encoders_lem b l = record { select = b.select; encoders = l; pwms = b.pwms; i2c = b.i2c }

abbrev pub with_pwms_lem : Bank → List Pwm → Bank
with_pwms_lem b l = record { select = b.select; encoders = b.encoders; pwms = l; i2c = b.i2c }

module _ (port : Bool) (v : ℕ) (b : Bank) where
  pub rerouted_none : b ≡ with_encoders_lem b (front (reroute port b.select v) 0 0 b.encoders)
  rerouted_none = ap (with_encoders_lem b) (sym (front_none (reroute port b.select v) b.encoders))

  module _ (ten : length b.encoders ≡ 10) (x : Bank) (i : ℕ)
      (here : x ≡ with_encoders_lem b (front (reroute port b.select v) 0 i b.encoders)) where
    pub rerouted_more : (r : Encoder) → i < 10 → r ≡ reroute port b.select v i (get_or x.encoders i encoder.fresh)
        → with_encoders_lem x (set x.encoders i r) ≡ with_encoders_lem b (front (reroute port b.select v) 0 (i + 1) b.encoders)
    rerouted_more r h q =
        rw (q, here) (ap (with_encoders_lem b) (front_more (reroute port b.select v) encoder.fresh b.encoders i (omega (arith, ten))))

    pub rerouted_all : i ≤ 10 → 10 ≤ i → ◌≡◌ {A = Bank} (record { select = v; encoders = x.encoders; pwms = x.pwms; i2c = x.i2c }) (on_select port v b)
    rerouted_all h k =
        rw here (ap {B = Bank} (λ (l : List Encoder). record { select = v; encoders = l; pwms = b.pwms; i2c = b.i2c }) (front_all (reroute port b.select v) b.encoders i 10 ten h k))

fourfold : (i : ℕ) → 2 ^ (2 * i) * 4 ≡ 2 ^ (2 * (i + 1))
fourfold i =
    let e : 2 * (i + 1) ≡ suc (suc (2 * i)) = omega arith in
    rw (e, pow-suc 2 (suc (2 * i)), pow-suc 2 (2 * i)) (omega arith)

set_there : (l : List Pwm) (i : ℕ) (d : Pwm) → set l i (get_or l i d) ≡ l
set_there [] i d = refl
set_there (x ∷ l) zero d = refl
set_there (x ∷ l) (suc i) d = ap (λ (m : List Pwm). x ∷ m) (set_there l i d)

module _ (o : Edition) (t : ℕ) (b : Bank) where
  pub pins_all : (pins : ℕ) → pins ≡ pwm_pins o.port b.select → pins ≡ pwm_pins o.port b.select / 2 ^ (2 * 0)
  pins_all pins e = omega arith

  pub ticked_none : b ≡ with_pwms_lem b (front (tick_routed o b.select t) 0 0 b.pwms)
  ticked_none = ap (with_pwms_lem b) (sym (front_none (tick_routed o b.select t) b.pwms))

  -- the next one is as it was, so its remainder is short
  pub ticked_short : Full b → (x : Bank) (i : ℕ) → x ≡ with_pwms_lem b (front (tick_routed o b.select t) 0 i b.pwms) → Short (get_or x.pwms i pwm.fresh)
  ticked_short full x i here = rw (here, front_behind (tick_routed o b.select t) pwm.fresh 0 b.pwms i) (full.short i)

  module _ (twenty : length b.pwms ≡ 20) (x : Bank) (i : ℕ)
      (here : x ≡ with_pwms_lem b (front (tick_routed o b.select t) 0 i b.pwms)) where
    pub ticked_more : (r : Pwm) → i < 20 → r ≡ tick_routed o b.select t i (get_or x.pwms i pwm.fresh)
        → with_pwms_lem x (set x.pwms i r) ≡ with_pwms_lem b (front (tick_routed o b.select t) 0 (i + 1) b.pwms)
    ticked_more r h q =
        rw (q, here) (ap (with_pwms_lem b) (front_more (tick_routed o b.select t) pwm.fresh b.pwms i (omega (arith, twenty))))

    -- a channel that is not routed stays, and one that is ticks, its bit being the first of those left
    module _ (pins : ℕ) (left : pins ≡ pwm_pins o.port b.select / 2 ^ (2 * i)) (h : i < 20) where
      pub pins_next : pins / 4 ≡ pwm_pins o.port b.select / 2 ^ (2 * (i + 1))
      pins_next = ap (λ (n : ℕ). n / 4) left ∙ div-div-eq-div-mul (pwm_pins o.port b.select) (2 ^ (2 * i)) 4 ∙ ap (λ (n : ℕ). pwm_pins o.port b.select / n) (fourfold i)

      routed : pwm_routed o.port b.select i ≡ eqb (pins % 2) 1
      routed = rw left (routed_bit o.port b.select i h)

      pub ticked_skip : (pins % 2 ≡ 1 → ⊥) → x ≡ with_pwms_lem b (front (tick_routed o b.select t) 0 (i + 1) b.pwms)
      ticked_skip d =
          let l = front (tick_routed o b.select t) 0 i b.pwms in
          let p = get_or l i pwm.fresh in
          let stays : p ≡ tick_routed o b.select t i p = sym (ap (λ (y : Bool). cond y (pwm.on_ticks o.runs t p) p) (routed ∙ ne_eqb _ _ d)) in
          here
          ∙ ap (with_pwms_lem b)
          (sym (set_there l i pwm.fresh) ∙ ap (set l i) stays ∙ front_more (tick_routed o b.select t) pwm.fresh b.pwms i (omega (arith, twenty)))

      pub ticked_one : (r : Pwm) → pins % 2 ≡ 1 → r ≡ pwm.on_ticks o.runs t (get_or x.pwms i pwm.fresh)
          → with_pwms_lem x (set x.pwms i r) ≡ with_pwms_lem b (front (tick_routed o b.select t) 0 (i + 1) b.pwms)
      ticked_one r e q = ticked_more r h (q ∙ sym (ap (λ (y : Bool). cond y (pwm.on_ticks o.runs t (get_or x.pwms i pwm.fresh)) (get_or x.pwms i pwm.fresh)) (routed ∙ eq-eqb _ _ e)))

    pub ticked_all : i ≤ 20 → 20 ≤ i → x ≡ on_ticks o t b
    ticked_all h k = here ∙ ap (with_pwms_lem b) (front_all (tick_routed o b.select t) b.pwms i 20 twenty h k)

  -- where no bit is left, none of the channels that are left is routed
  pub ticked_rest : (twenty : length b.pwms ≡ 20) (n : ℕ) (x : Bank) (i pins : ℕ) → i + n ≡ 20
      → pins ≡ pwm_pins o.port b.select / 2 ^ (2 * i) → pins ≡ 0 → x ≡ with_pwms_lem b (front (tick_routed o b.select t) 0 i b.pwms) → x ≡ on_ticks o t b
  ticked_rest twenty zero x i pins e left z here = ticked_all twenty x i here (omega arith) (omega arith)
  ticked_rest twenty (suc n) x i pins e left z here =
      ticked_rest twenty n x (i + 1) (pins / 4) (omega arith) (pins_next twenty x i here pins left (omega arith)) (omega arith)
      (ticked_skip twenty x i here pins left (omega arith) (λ o. omega arith))

-- where one is left, there is a channel
pub pins_some : (port : Bool) (select pins i : ℕ) → pins ≡ pwm_pins port select / 2 ^ (2 * i) → (pins ≡ 0 → ⊥) → i < 20
pins_some port select pins i e d = by (dec_le 20 i)
  where
    by : Dec (20 ≤ i) → i < 20
    by (yes h) = absurd (d (e ∙ pins_small port select i h))
    by (no h) = omega arith
