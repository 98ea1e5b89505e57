-- What is shown of the texts. Assumes nothing.
use Rattle.std.specs.Prelude.{◌≡◌, List, [], ◌∷◌, ℕ}
use Rattle.decimal.specs.Ascii.{ascii}
use Rattle.text.specs.Text.{text_of}

pub record Texts : Type 0 where
  -- "Printed: `1`, then `applied 5 refused 0`"
  pub printed : text_of (1 ∷ []) 5 0 ≡ ascii "1\napplied 5 refused 0\n"
  -- what is printed tells the readings, K and R
  pub told : (vs ws : List ℕ) (k l r q : ℕ) → text_of vs k r ≡ text_of ws l q → (vs ≡ ws) × (k ≡ l) × (r ≡ q)
