-- A question asked of an ELVIS III.
-- Assumes nothing.
use mathlib.Core.Path.{◌≡◌, sym, ap, ◌∙◌}
use mathlib.Core.Bool.{Bool, false}
use Prim.Native.Nat.{ℕ, ◌*◌, ◌/◌, ◌%◌, ◌^◌, ◌<◌, ◌≤◌}
use lib.Dec.{eqb}
use Rattle.select.specs.Select.{encoder_routed, i2c_routed}
use Rattle.select_allowed.specs.How.{ones}
use Rattle.select.specs.How.{pwm_pins}
use Rattle.select.proofs.Fields.{pair_routed, no_pair, i2c_pins}

module _ (port : Bool) (select : ℕ) (p : port ≡ false) where
  pub pins_encoder : (i : ℕ) → i < 10 → eqb (select / 2 ^ (4 * i) % 16) 10 ≡ encoder_routed port select i
  pins_encoder i h = pair_routed select i h ∙ ap (λ (b : Bool). encoder_routed b select i) (sym p)

  pub pins_no_encoder : (i : ℕ) → 10 ≤ i → false ≡ encoder_routed port select i
  pins_no_encoder i h = no_pair select i h ∙ ap (λ (b : Bool). encoder_routed b select i) (sym p)

  pub pins_i2c : eqb (select / 2 ^ 28 % 16) 15 ≡ i2c_routed port select
  pins_i2c = i2c_pins select ∙ ap (λ (b : Bool). i2c_routed b select) (sym p)

  pub pins_pins : (n : ℕ) → n ≡ ones select → n ≡ pwm_pins port select
  pins_pins n e = e ∙ ap (λ (b : Bool). pwm_pins b select) (sym p)
