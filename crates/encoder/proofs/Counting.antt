-- What pins and a write to CNFG leave of an encoder, for whoever follows it over many records.
-- Assumes nothing.
use mathlib.Core.Path.{◌≡◌, refl, sym, ap, ◌∙◌, subst}
use mathlib.Core.Bool.{Bool, true, false, not, cond, ◌&&◌, ◌||◌, and-true, true≢false}
use Prim.Native.Nat.{ℕ, zero, suc, ◌<◌, ◌≤◌}
use native.Mathlib.Omega.{arith}
use borrow.Author.Tests.{not-true}
use lib.IntN.{pos, negsuc, ◌+ℤ◌}
use lib.Signed.{mag}
use Rattle.bits.specs.Bits.{bit, num, rises}
use Rattle.laws.proofs.Cases.{taken, left}
use Rattle.laws.proofs.Truth.{both_true, nor, same_not}
use Rattle.encoder.specs.declared.Encoder.{Encoder}
use Rattle.encoder.specs.Encoder.{en, rst, mode, stat_of, erred, stored, kept, counted, places, quadrature, clocked, on_pins, on_cnfg, counts_in_quadrature}
use Rattle.encoder_count.proofs.Wrap.{wrap_small}

-- "if they were unseen, or RST is 1, that is all": the count and STAT stay
pub still : (v : ℕ) (e : Encoder) → (not e.seen || rst e.cnfg) ≡ true → ((on_pins v e).count ≡ e.count) × ((on_pins v e).stat ≡ e.stat)
still v e h =
    subst (λ (r : Encoder). ((cond (not (en e.cnfg)) e r).count ≡ e.count) × ((cond (not (en e.cnfg)) e r).stat ≡ e.stat)) (taken _ _ _ _ h refl) (by (not (en e.cnfg)))
  where
    by : (b : Bool) → ((cond b e (kept v e)).count ≡ e.count) × ((cond b e (kept v e)).stat ≡ e.stat)
    by true = (refl, refl)
    by false = (refl, refl)

-- ---- an encoder that counts in quadrature

module _ (routed : Bool) (e : Encoder) (counts : counts_in_quadrature routed e.cnfg ≡ true) where
  rest : (not (rst e.cnfg) && not (mode e.cnfg)) ≡ true
  rest = (both_true (en e.cnfg) _ (both_true routed _ counts).1).1

  pub is_en : en e.cnfg ≡ true
  is_en = (both_true (en e.cnfg) _ (both_true routed _ counts).1).0

  pub not_rst : rst e.cnfg ≡ false
  not_rst = not-true (rst e.cnfg) (both_true (not (rst e.cnfg)) _ rest).0

  pub not_mode : mode e.cnfg ≡ false
  not_mode = not-true (mode e.cnfg) (both_true (not (rst e.cnfg)) _ rest).1

  -- pins that it has not seen yet, and all others
  pub first_kept : (v : ℕ) → e.seen ≡ false → on_pins v e ≡ kept v e
  first_kept v unseen = sym (left _ _ _ _ (ap not is_en) (taken _ _ _ _ (ap (λ (b : Bool). not b || rst e.cnfg) unseen) refl))

  pub pins_quadrature : (v : ℕ) → e.seen ≡ true → on_pins v e ≡ quadrature (places e.pins v) v e
  pins_quadrature v seen =
      sym (left _ _ _ _ (ap not is_en) (left _ _ _ _ (nor (not e.seen) (rst e.cnfg) (ap not seen) not_rst) (left _ _ _ _ not_mode refl)))

-- ---- whatever the pins: what holds of the encoder where EN is 0, of pins kept, of a step and of an error holds after pins

module _ (P : Encoder → Type 0) where
  either : (b : Bool) (x y : Encoder) → P x → P y → P (cond b x y)
  either true x y p q = p
  either false x y p q = q

  module _ (v : ℕ) (e : Encoder) (is-off : en e.cnfg ≡ false → P e) (is-kept : P (kept v e)) (is-counted : (back : Bool) → P (counted back v e))
      (is-erred : P (stored v e.count (erred e.stat) e)) where
    by_places : (t : ℕ) → P (quadrature t v e)
    by_places zero = is-kept
    by_places (suc zero) = is-counted false
    by_places (suc (suc zero)) = is-erred
    by_places (suc (suc (suc t))) = is-counted true

    by_mode : P (cond (mode e.cnfg) (clocked v e) (quadrature (places e.pins v) v e))
    by_mode =
        either (mode e.cnfg) (clocked v e) _ (either (rises (bit 0 e.pins) (bit 0 v)) (counted (bit 1 v) v e) (kept v e) (is-counted (bit 1 v)) is-kept)
        (by_places (places e.pins v))

    pub after_pins : P (on_pins v e)
    after_pins = by (en e.cnfg) _ is-off (either (not e.seen || rst e.cnfg) (kept v e) _ is-kept by_mode)
      where
        by : (b : Bool) (x : Encoder) → (b ≡ false → P e) → P x → P (cond (not b) e x)
        by true x off p = p
        by false x off p = off refl

pub pins_cnfg : (v : ℕ) (e : Encoder) → (on_pins v e).cnfg ≡ e.cnfg
pins_cnfg v e = after_pins (λ (r : Encoder). r.cnfg ≡ e.cnfg) v e (λ off. refl) refl (λ back. refl) refl

pub pins_counting : (routed : Bool) (v : ℕ) (e : Encoder) → counts_in_quadrature routed (on_pins v e).cnfg ≡ counts_in_quadrature routed e.cnfg
pins_counting routed v e = ap (counts_in_quadrature routed) (pins_cnfg v e)

-- "Pins with EN 0 change nothing. Otherwise they are stored"
pub pins_stored : (v : ℕ) (e : Encoder) → en e.cnfg ≡ true → ((on_pins v e).pins ≡ v) × ((on_pins v e).seen ≡ true)
pins_stored v e on =
    after_pins (λ (r : Encoder). (r.pins ≡ v) × (r.seen ≡ true)) v e (λ off. absurd (true≢false (sym on ∙ off))) (refl, refl) (λ back. (refl, refl)) (refl, refl)

-- ---- the count is a number of 32 bits, STAT one of six

pub pins_count : (v : ℕ) (e : Encoder) → mag e.count < 2147483648 → mag (on_pins v e).count < 2147483648
pins_count v e h = after_pins (λ (r : Encoder). mag r.count < 2147483648) v e (λ off. h) h (λ back. wrap_small (e.count +ℤ cond back (negsuc 0) (pos 1))) h

pub cnfg_count : (v : ℕ) (e : Encoder) → mag e.count < 2147483648 → mag (on_cnfg v e).count < 2147483648
cnfg_count v e h = by (rst v)
  where
    by : (t : Bool) → mag (cond t (pos 0) e.count) < 2147483648
    by true = omega arith
    by false = h

pub stat_six : (d r u s a o : Bool) → stat_of d r u s a o < 64
unfolding stat_of
stat_six d r u s a o = omega (arith, bit_le d, bit_le r, bit_le u, bit_le s, bit_le a, bit_le o)
  where
    bit_le : (b : Bool) → num b ≤ 1
    bit_le true = omega arith
    bit_le false = omega arith

pub pins_stat : (v : ℕ) (e : Encoder) → e.stat < 64 → (on_pins v e).stat < 64
pins_stat v e h = after_pins (λ (r : Encoder). r.stat < 64) v e (λ off. h) h (λ back. stat_six _ _ _ _ _ _) (stat_six _ _ _ _ _ _)

-- a count of 32 bits (`mag` is n for n and for -(n + 1)), and a STAT of six
pub record InRange (e : Encoder) : Type 0 where
  pub count : mag e.count < 2147483648
  pub stat : e.stat < 64

-- an encoder stays so
pub stays_in_range : (v : ℕ) (e : Encoder) → InRange e → InRange (on_pins v e) × InRange (on_cnfg v e)
stays_in_range v e h =
    (record { count = pins_count v e h.count; stat = pins_stat v e h.stat }, record { count = cnfg_count v e h.count; stat = stat_six _ _ _ _ _ _ })

-- ---- a write that leaves EN and MODE as they are keeps the pins seen

keeps_seen : (v : ℕ) (e : Encoder) → en v ≡ en e.cnfg → mode v ≡ mode e.cnfg → (on_cnfg v e).seen ≡ e.seen
keeps_seen v e en-same mode-same = rw (same_not (en e.cnfg) (en v) (sym en-same), same_not (mode e.cnfg) (mode v) (sym mode-same)) (and-true e.seen)

-- to an encoder that counts in quadrature, and still does after it
pub cnfg_quiet : (routed : Bool) (w : ℕ) (e : Encoder) → counts_in_quadrature routed e.cnfg ≡ true → counts_in_quadrature routed w ≡ true
    → ((on_cnfg w e).count ≡ e.count) × ((on_cnfg w e).seen ≡ e.seen)
cnfg_quiet routed w e h k =
    let d = on_cnfg w e in
    (sym (left _ _ _ _ (not_rst routed d k) refl), keeps_seen w e (is_en routed d k ∙ sym (is_en routed e h)) (not_mode routed d k ∙ sym (not_mode routed e h)))
