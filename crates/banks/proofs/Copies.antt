-- A bank copied into the flat arrays, and both out of them.
-- Assumes nothing.
use mathlib.Core.Path.{◌≡◌, refl, ap, ◌∙◌}
use mathlib.Core.List.{List, [], ◌∷◌}
use Prim.Native.Nat.{ℕ, zero, suc, ◌+◌, ◌-◌, ◌*◌, ◌<◌}
use native.Mathlib.Omega.{arith}
use lib.ListN.{length, set}
use borrow.Rule.Slice.PartMut.{put_mid}
use Rattle.std.proofs.lemmas.Slice.{put_mid-paste}
use Rattle.encoder.specs.declared.Encoder.{Encoder}
use Rattle.pwm.specs.declared.Pwm.{Pwm}
use lib.Seq.{get_or-set_same, get_or-set_other, paste}
use Rattle.bank.specs.declared.Bank.{Bank}
use Rattle.banks.specs.declared.State.{State}
use Rattle.banks.specs.declared.Flat.{Flat}
use Rattle.banks.specs.State.{no_i2c, bank_at, with_bank}
use Rattle.banks.specs.How.{bank_in, state_of}
use Rattle.banks.proofs.Parts.{copied_in, first_kept, second_kept}

-- ---- in

abbrev laid_at : Flat → Bank → ℕ → Flat
laid_at f b k = record {
  selects = set f.selects k b.select;
  encoders = paste f.encoders (10 * k) b.encoders 10;
  pwms = paste f.pwms (20 * k) b.pwms 20;
  i2cs = set f.i2cs k b.i2c;
}

module _ (f : Flat) (b : Bank) (ls : length f.selects ≡ 2) (le : length f.encoders ≡ 20) (lp : length f.pwms ≡ 40) (lc : length f.i2cs ≡ 2)
    (ten : length b.encoders ≡ 10) (twenty : length b.pwms ≡ 20) where
  whole : (k : ℕ) → k < 2 → state_of (laid_at f b k) ≡ with_bank k (state_of f) b
  unfolding state_of
  whole zero h =
      rw (
        copied_in 10 f.encoders b.encoders ten 0 (omega arith),
        second_kept 10 f.encoders b.encoders ten,
        copied_in 20 f.pwms b.pwms twenty 0 (omega arith),
        second_kept 20 f.pwms b.pwms twenty,
        get_or-set_same f.selects 0 b.select 0 (omega (arith, ls)),
        get_or-set_other f.selects 0 1 b.select 0 (λ e. absurd (omega (arith, e))),
        get_or-set_same f.i2cs 0 b.i2c no_i2c (omega (arith, lc)),
        get_or-set_other f.i2cs 0 1 b.i2c no_i2c (λ e. absurd (omega (arith, e))),
      )
  whole (suc zero) h =
      rw (
        copied_in 10 f.encoders b.encoders ten 1 (omega (arith, le)),
        first_kept 10 f.encoders b.encoders ten (omega (arith, le)),
        copied_in 20 f.pwms b.pwms twenty 1 (omega (arith, lp)),
        first_kept 20 f.pwms b.pwms twenty (omega (arith, lp)),
        get_or-set_same f.selects 1 b.select 0 (omega (arith, ls)),
        get_or-set_other f.selects 1 0 b.select 0 (λ e. absurd (omega (arith, e))),
        get_or-set_same f.i2cs 1 b.i2c no_i2c (omega (arith, lc)),
        get_or-set_other f.i2cs 1 0 b.i2c no_i2c (λ e. absurd (omega (arith, e))),
      )
  whole (suc (suc k)) h = absurd (omega arith)

  -- as the code has it, with the bank's channels copied over those that were there
  pub laid_in : (k : ℕ) → k < 2 → (es : List Encoder) (ps : List Pwm) → es ≡ b.encoders → ps ≡ b.pwms
      → state_of
      (record {
        selects = set f.selects k b.select;
        encoders = put_mid (10 * k) (10 * k + 10 - 10 * k) f.encoders es;
        pwms = put_mid (20 * k) (20 * k + 20 - 20 * k) f.pwms ps;
        i2cs = set f.i2cs k b.i2c;
      })
      ≡ with_bank k (state_of f) b
  laid_in k h es ps p q =
      rw (
        put_mid-paste (10 * k) (10 * k + 10 - 10 * k) f.encoders es b.encoders 10 p (omega arith) (omega (arith, ten)),
        put_mid-paste (20 * k) (20 * k + 20 - 20 * k) f.pwms ps b.pwms 20 q (omega arith) (omega (arith, twenty)),
      )
      (whole k h)

pub both_in : (s : State) (f g h : Flat) → length s.banks ≡ 2 → state_of g ≡ with_bank 0 (state_of f) (bank_at 0 s) → state_of h ≡ with_bank 1 (state_of g) (bank_at 1 s) → state_of h ≡ s
unfolding state_of
both_in s f g h two p q = q ∙ ap (λ (t : State). with_bank 1 t (bank_at 1 s)) p ∙ ap {B = State} (λ (l : List Bank). record { banks = l }) (pair s.banks two)
  where
    pair : (l : List Bank) → length l ≡ 2 → bank_at 0 (record { banks = l }) ∷ bank_at 1 (record { banks = l }) ∷ [] ≡ l
    pair (x ∷ y ∷ []) e = refl
    pair [] e = absurd (omega (arith, e))
    pair (x ∷ []) e = absurd (omega (arith, e))
    pair (x ∷ y ∷ z ∷ l) e = absurd (omega (arith, e))

-- ---- out

pub both_out : (f : Flat) (a b : Bank) → a ≡ bank_in 0 f → b ≡ bank_in 1 f → ◌≡◌ {A = State} (record { banks = a ∷ b ∷ [] }) (state_of f)
unfolding state_of
both_out f a b p q = rw (p, q)
