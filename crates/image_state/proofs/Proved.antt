-- The facts of specs/Facts.antt.
-- Assumes nothing.
use mathlib.Core.Path.{sym, ap, ◌∙◌}
use mathlib.Core.List.{List, [], ◌++◌}
use Prim.Native.Nat.{ℕ}
use Rattle.image_state.specs.How.{load_of}
use Rattle.image_state.specs.Facts.{Images}
use Rattle.image_state.proofs.Loaded.{image_long, image_bytes, back_with}

pub images : Images
images l f = (image_long l f, image_bytes l f, λ m g e. sym (back_with m g []) ∙ ap (λ (t : List ℕ). load_of (t ++ [])) e ∙ back_with l f [])
