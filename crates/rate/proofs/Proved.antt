-- The facts of specs/Facts.antt: the sums are what the finder computes. Assumes nothing.
use mathlib.Core.Path.{refl}
use native.Mathlib.Omega.{arith}
use Rattle.rate.specs.Rate.{pwm, spi}
use Rattle.rate.specs.Facts.{Settled, Thousandfold, wider, FarSums}
use Rattle.rate.proofs.Answers.{found_right, settled, fair_pwm, fair_spi, fair_hertz_pwm, fair_hertz_spi}
use Rattle.rate.proofs.Thousands.{thousandfold}

pub settled_pwm : Settled (pwm 1_000)
settled_pwm = settled (pwm 1_000) fair_pwm

pub settled_spi : Settled (spi 1_000)
settled_spi = settled (spi 1_000) fair_spi

pub thousandfold_pwm : Thousandfold pwm
thousandfold_pwm = thousandfold (pwm 1) fair_hertz_pwm fair_pwm

pub thousandfold_spi : Thousandfold spi
thousandfold_spi = thousandfold (spi 1) fair_hertz_spi fair_spi

pub far_sums : FarSums
far_sums =
    record {
      midway = record { choice = 1; divides = refl; answered = found_right wider (omega arith) 4_500_000_000 1_000_000 };
      last = record { choice = 7; divides = refl; answered = found_right wider (omega arith) 5_000 0 };
    }
