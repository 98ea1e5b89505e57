-- Every element of a list, with its place.
-- Assumes nothing.
use Rattle.std.specs.Prelude.{ℕ, suc, List, [], ◌∷◌}

-- f of each element and its place, of which the first is k
unfoldable pub map_from : {X : Type 0} → (ℕ → X → X) → ℕ → List X → List X
map_from f k [] = []
map_from f k (x ∷ xs) = f k x ∷ map_from f (suc k) xs
