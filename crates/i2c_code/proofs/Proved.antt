-- The facts of specs/Facts.antt.
-- Assumes nothing.
use mathlib.Core.Path.{refl}
use mathlib.Core.Bool.{true, false}
use Rattle.i2c_code.specs.Code.{allowed, forbidden}
use Rattle.i2c_code.specs.Facts.{Sums}

pub sums : Sums
unfolding allowed forbidden
sums true = (refl, refl, refl, refl)
sums false = (refl, refl, refl, refl)
