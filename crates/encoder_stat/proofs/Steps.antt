-- STAT after a step from a count, at the ends and between them.
-- Assumes nothing.
use mathlib.Core.Path.{◌≡◌, refl, sym, ap, ◌∙◌}
use mathlib.Core.Bool.{Bool, true, false, cond, ◌&&◌, ◌||◌}
use Prim.Native.Nat.{ℕ, ◌<◌}
use lib.IntN.{ℤ}
use lib.Signed.{mag}
use mir.Syntax.{w32}
use mir.Val.{of_z}
use borrow.Author.Tests.{ne_eqb}
use Rattle.bits.specs.Bits.{bit}
use Rattle.encoder_count.specs.Count.{pattern}
use Rattle.encoder_count.proofs.Wrap.{bits_are}
use Rattle.encoder_stat.specs.Stat.{stat_of, marked}

-- the step from 1 passes no border
plain : (back : Bool) (s : ℕ) → marked back 1 s ≡ stat_of back (bit 1 s) (bit 2 s || false) (bit 3 s || false) (bit 4 s || (bit 2 s && false)) (bit 5 s || (bit 3 s && false))
plain true s = refl
plain false s = refl

module _ (at : ℤ) (small : mag at < 2147483648) where
  -- the code's test against an end, of which b is the pattern, by its pattern
  module _ (end : ℤ) (small' : mag end < 2147483648) (b : ℕ) (is : pattern end ≡ b) where
    pub at_end : of_z w32 at ≡ of_z w32 end → pattern at ≡ b
    at_end e = sym (bits_are at small) ∙ e ∙ bits_are end small' ∙ is

    pub off_end : (of_z w32 at ≡ of_z w32 end → ⊥) → pattern at ≡ b → ⊥
    off_end n e = n (bits_are at small ∙ e ∙ sym is ∙ sym (bits_are end small'))

  module _ (back : Bool) (stat s : ℕ) where
    pub step_at : (b : ℕ) → pattern at ≡ b → s ≡ marked back b stat → s ≡ marked back (pattern at) stat
    step_at b end h = h ∙ ap (λ (i : ℕ). marked back i stat) (sym end)

    -- between the ends
    pub step_between : (pattern at ≡ cond back 0 4294967295 → ⊥) → (pattern at ≡ cond back 2147483648 2147483647 → ⊥) → s ≡ marked back 1 stat
        → s ≡ marked back (pattern at) stat
    step_between not-unsigned not-signed h =
        rw (ne_eqb (pattern at) (cond back 0 4294967295) not-unsigned, ne_eqb (pattern at) (cond back 2147483648 2147483647) not-signed) (h ∙ plain back stat)
