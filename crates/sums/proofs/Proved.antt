-- The sums of specs/Paper.antt: the rates' by the law of the finder at these numbers, in millihertz by the theorem that they are the same
-- there, the others computed.
-- Assumes nothing.
use mathlib.Core.Path.{◌≡◌, refl}
use mathlib.Core.Bool.{Bool, true, false}
use Prim.Native.Nat.{ℕ, ◌*◌}
use Rattle.rate.specs.Rate.{pwm, spi, period}
use Rattle.rate.specs.Facts.{Gives}
use Rattle.rate.proofs.Answers.{fair_pwm, fair_hertz_pwm, fair_hertz_spi, found_right}
use Rattle.rate.proofs.Proved.{thousandfold_pwm, thousandfold_spi}
use Rattle.encoder.specs.Encoder.{stat_of}
use Rattle.i2c.specs.I2c.{allowed, forbidden}
use Rattle.pwm.specs.Pwm.{ticked, waited, on_ticks}
use Rattle.sums.specs.Paper.{started, RateSums, PaperSums}
use Rattle.sums.specs.Ours.{OurSums}

in_hertz : RateSums 1
in_hertz = record {
  pwm_1000 = record { choice = 1; divides = refl; answered = found_right (pwm 1) fair_hertz_pwm 1_000 0 };
  pwm_40 = record { choice = 5; divides = refl; answered = found_right (pwm 1) fair_hertz_pwm 40 0 };
  pwm_39 = found_right (pwm 1) fair_hertz_pwm 39 0;
  pwm_40001 = found_right (pwm 1) fair_hertz_pwm 40_001 0;
  pwm_610_3 = found_right (pwm 1) fair_hertz_pwm 610 3;
  pwm_610_4 = record { choice = 2; divides = refl; answered = found_right (pwm 1) fair_hertz_pwm 610 4 };
  spi_4000000 = record { choice = 1; divides = refl; answered = found_right (spi 1) fair_hertz_spi 4_000_000 0 };
  spi_40 = record { choice = 4; divides = refl; answered = found_right (spi 1) fair_hertz_spi 40 0 };
  spi_3650000_86757 = found_right (spi 1) fair_hertz_spi 3_650_000 86_757;
  spi_3650000_86758 = record { choice = 1; divides = refl; answered = found_right (spi 1) fair_hertz_spi 3_650_000 86_758 };
}

-- the same in millihertz, since what a thousandfold rate is answered is the same
milli_pwm : {f tol N X : ℕ} → Gives (pwm 1) f tol N X → Gives (pwm 1_000) (1_000 * f) tol N X
milli_pwm {f} {tol} {N} {X} g =
    record { choice = g.choice; divides = g.divides; answered = (thousandfold_pwm f tol (0, g.choice, X, period (pwm 1) g.choice X)).0 g.answered }

milli_spi : {f tol N X : ℕ} → Gives (spi 1) f tol N X → Gives (spi 1_000) (1_000 * f) tol N X
milli_spi {f} {tol} {N} {X} g =
    record { choice = g.choice; divides = g.divides; answered = (thousandfold_spi f tol (0, g.choice, X, period (spi 1) g.choice X)).0 g.answered }

in_millihertz : RateSums 1_000
in_millihertz = record {
  pwm_1000 = milli_pwm in_hertz.pwm_1000;
  pwm_40 = milli_pwm in_hertz.pwm_40;
  pwm_39 = found_right (pwm 1_000) fair_pwm 39_999 0;
  pwm_40001 = found_right (pwm 1_000) fair_pwm 40_000_001 0;
  pwm_610_3 = (thousandfold_pwm 610 3 (14, 0, 0, 0)).0 in_hertz.pwm_610_3;
  pwm_610_4 = milli_pwm in_hertz.pwm_610_4;
  spi_4000000 = milli_spi in_hertz.spi_4000000;
  spi_40 = milli_spi in_hertz.spi_40;
  spi_3650000_86757 = (thousandfold_spi 3_650_000 86_757 (14, 0, 0, 0)).0 in_hertz.spi_3650000_86757;
  spi_3650000_86758 = milli_spi in_hertz.spi_3650000_86758;
}

ticks_1 : (runs : Bool) → ((on_ticks runs 5 (started 1)).wave.counter ≡ 1) × ((on_ticks runs 5 (started 1)).wave.output ≡ true)
unfolding ticked waited
ticks_1 true = (refl, refl)
ticks_1 false = (refl, refl)

ticks_2 : (runs : Bool) → ((on_ticks runs 5 (started 2)).wave.counter ≡ 2) × ((on_ticks runs 5 (started 2)).wave.remainder ≡ 1)
unfolding ticked waited
ticks_2 true = (refl, refl)
ticks_2 false = (refl, refl)

pub paper_sums : PaperSums
unfolding stat_of ticked waited
paper_sums = record {
  in_hertz = in_hertz;
  in_millihertz = in_millihertz;
  pins_forward = refl;
  pins_backward = refl;
  pins_double = (refl, refl);
  ticks_1 = ticks_1;
  ticks_2 = ticks_2;
}

pub our_sums : OurSums
unfolding stat_of ticked waited allowed forbidden
our_sums = record {
  down = refl;
  down_and_up = refl;
  signed_down = (refl, refl);
  above_max = (refl, refl, refl);
  no_stop = refl;
  no_data = (refl, refl);
}
