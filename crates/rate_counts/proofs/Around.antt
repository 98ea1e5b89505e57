-- The undivided clock's counts are a bracket, and so are those of the next coarser divider. Assumes nothing.
use mathlib.Core.Path.{◌≡◌, refl, ap, ◌∙◌}
use Prim.Native.Nat.{ℕ, ◌+◌, ◌*◌, ◌/◌, ◌≤◌, ◌<◌}
use native.Mathlib.Nat.{le_refl, mul-le-mul_left, le-div_iff_mul-le, div-lt_iff_lt-mul}
use native.Mathlib.Omega.{arith}
use native.Mathlib.Decide.{dec_le}
use Rattle.divider.specs.Divider.{divider_of}
use Rattle.rate_counts.specs.declared.Bracket.{Bracket}
use Rattle.rate_counts.specs.How.{Fit, Brackets, undivided_of, coarser_of}
use Rattle.rate_counts.proofs.Dividers.{most, next}

module _ (C s : ℕ) (fit : Fit C s) where
  pub first_some : 0 < s
  first_some = fit.some

  pub first_brackets : Brackets C s (undivided_of C s)
  first_brackets =
      record {
        some = omega arith;
        most = omega arith;
        divides = refl;
        small = omega arith;
        around =
            record {
              clock = fit.clock;
              wide = omega (arith, fit.wide);
              under = omega (arith, (le-div_iff_mul-le first_some).0 (le_refl (C / s)));
              past = omega (arith, (div-lt_iff_lt-mul {x = C} {y = C / s + 1} first_some).0 (omega arith));
            };
        full = λ h. absurd (omega arith);
      }

  -- the last divider reaches all
  pub more : (a : Bracket) → Brackets C s a → 65_536 ≤ a.low → a.choice < 7
  more a h l = by (dec_le a.choice 6)
    where
      by : Dec (a.choice ≤ 6) → a.choice < 7
      by (yes t) = omega arith
      by (no t) =
          let e : a.choice ≡ 7 = omega (arith, h.most) in
          let g : a.divider ≡ 64 = h.divides ∙ ap divider_of e in
          let j : s * a.divider ≡ s * 64 = ap (λ (d : ℕ). s * d) g in
          omega (arith, h.around.under, mul-le-mul_left (s * a.divider) l, fit.reach)

  pub coarser_brackets : (a : Bracket) → Brackets C s a → 65_536 ≤ a.low → Brackets C s (coarser_of a)
  coarser_brackets a h l =
      record {
        some = omega arith;
        most = omega (arith, more a h l);
        divides = divides;
        small = rw divides (most (a.choice + 1) (omega arith) (omega (arith, more a h l)));
        around =
            record {
              clock = fit.clock;
              wide = omega (arith, fit.clock, h.around.under, mul-le-mul_left (s * a.divider) l);
              under = omega (arith, h.around.under, mul-le-mul_left (s * a.divider) half);
              past = omega (arith, h.around.past, mul-le-mul_left (s * a.divider) whole);
            };
        full = λ t. omega arith;
      }
    where
      half : 2 * (a.low / 2) ≤ a.low
      half = omega arith

      whole : a.low + 1 ≤ 2 * (a.low / 2 + 1)
      whole = omega arith

      divides : 2 * a.divider ≡ divider_of (a.choice + 1)
      divides = rw (next a.choice h.some (more a h l), h.divides)
      -- a count that is short enough is reached in six turns
