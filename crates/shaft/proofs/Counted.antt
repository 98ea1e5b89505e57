-- What an encoder counts in quadrature is the step that its pins show.
-- Assumes nothing.
use mathlib.Core.Path.{◌≡◌, refl, sym, ap, ◌∙◌}
use mathlib.Core.Bool.{Bool, true}
use Prim.Native.Nat.{ℕ, zero, suc, ◌<◌}
use lib.IntN.{◌+ℤ◌, +ℤ_idr}
use lib.Signed.{mag}
use Rattle.encoder_count.specs.Count.{wrap}
use Rattle.encoder.specs.Encoder.{places, quadrature, on_pins, counts_in_quadrature}
use Rattle.encoder.specs.declared.Encoder.{Encoder}
use Rattle.encoder_count.proofs.Wrap.{wrap_fits}
use Rattle.encoder.proofs.Counting.{pins_quadrature}
use Rattle.shaft.specs.Shaft.{step_of}

by_places : (t v : ℕ) (e : Encoder) → mag e.count < 2147483648 → (quadrature t v e).count ≡ wrap (e.count +ℤ step_of t)
by_places zero v e h = sym (ap wrap (+ℤ_idr e.count) ∙ wrap_fits e.count h)
by_places (suc zero) v e h = refl
by_places (suc (suc zero)) v e h = sym (ap wrap (+ℤ_idr e.count) ∙ wrap_fits e.count h)
by_places (suc (suc (suc t))) v e h = refl

pub pins_step : (routed : Bool) (e : Encoder) → counts_in_quadrature routed e.cnfg ≡ true → (v : ℕ) → e.seen ≡ true → mag e.count < 2147483648
    → (on_pins v e).count ≡ wrap (e.count +ℤ step_of (places e.pins v))
pins_step routed e q v seen h = ap (λ (r : Encoder). r.count) (pins_quadrature routed e q v seen) ∙ by_places (places e.pins v) v e h
