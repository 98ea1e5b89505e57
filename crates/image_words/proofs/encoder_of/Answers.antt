use mathlib.Core.Path.{◌∙◌}
use mir.Facts.{to_z-of_z}
use mir.Syntax.{w32}
use Rattle.image_words.proofs.Numbers.{encoder_made}
use Rattle.image_words.proofs.encoder_of.Goals as goal

pub returns : goal.returns
returns c = encoder_made _ _ (to_z-of_z {w = w32} (record { sfits = c.count_of.type_inv }) ∙ c.count_of.ensures)
