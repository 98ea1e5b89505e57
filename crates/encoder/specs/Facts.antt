-- What is shown of the rules: facts that hold of every encoder.
-- Assumes nothing.
use Rattle.std.specs.Prelude.{ℕ, ◌≡◌, true, false, pos}
use mathlib.Core.List.{List, foldl}
use Rattle.encoder.specs.declared.Encoder.{Encoder}
use Rattle.encoder.specs.Encoder.{rst, on_pins, on_cnfg}

-- pins records, one after the other
abbrev pub played : List ℕ → Encoder → Encoder
played vs e = foldl (λ (d : Encoder) (v : ℕ). on_pins v d) e vs

pub record Encoders : Type 0 where
  -- pins that were unseen change neither count nor flags
  pub first_pins : (v : ℕ) (e : Encoder) → e.seen ≡ false → ((on_pins v e).count ≡ e.count) × ((on_pins v e).stat ≡ e.stat)
  -- a reset encoder's count is 0, and its flags are as they were, whatever pins come
  pub held : (v : ℕ) (e : Encoder) → rst v ≡ true → (vs : List ℕ)
      → ((played vs (on_cnfg v e)).count ≡ pos 0) × ((played vs (on_cnfg v e)).stat ≡ (on_cnfg v e).stat)
