-- Bytes put into a lent text, one after the other. Assumes nothing.
use Rattle.std.specs.Prelude.{◌≡◌, List, ℕ}
use Rattle.decimal.specs.Put.{Put}
use Rattle.text.specs.declared.Text.{Text}

-- as much of s as has room stands in the same slice from the text's place on, which is then after it
pub record Puts (t t' : Text) (s : List ℕ) : Type 0 where
  pub same : t'.out.ghost_name ≡ t.out.ghost_name
  pub put : Put t.out.now t.at s t'.out.now t'.at
