-- The loops of the code: what each has done after i turns.
-- Assumes nothing.
use mathlib.Core.Path.{◌≡◌, refl, sym, ap, ◌∙◌}
use mathlib.Core.List.{List, [], ◌∷◌, ◌++◌, append-nil, append_assoc}
use Prim.Native.Nat.{ℕ, ◌+◌, ◌*◌, ◌<◌}
use native.Mathlib.Omega.{arith}
use lib.ListN.{length, get_or}
use lib.Seq.{sets, length-sets}
use Rattle.numbers.specs.Bytes.{le_bytes}
use Rattle.codec.specs.How.{save_word, save_many}
use Rattle.codec.proofs.Loops.{saved, saved_more, sets_append}
use Rattle.encoder.specs.declared.Encoder.{Encoder}
use Rattle.pwm.specs.declared.Pwm.{Pwm}
use Rattle.i2c.specs.declared.I2c.{I2c}
use Rattle.banks.specs.declared.Flat.{Flat}
use Rattle.image_words.specs.How.{i2c_number, low_number}
use Rattle.image_state.specs.How.{save_pwm}

-- ---- saving

pub same_long : (out₀ out xs : List ℕ) (at : ℕ) → out ≡ sets out₀ at xs → length out ≡ length out₀
same_long out₀ out xs at e = ap length e ∙ length-sets out₀ at xs

module _ (out₀ : List ℕ) (l : List Encoder) where
  abbrev pub encoders_in : ℕ → List ℕ
  encoders_in i = saved 8 (save_word low_number) (λ x. refl) out₀ 64 i l

  -- one encoder more
  pub encoders_on : (out : List ℕ) (i : ℕ) (d : Encoder) (v : ℕ) (out' : List ℕ) → i < length l → out ≡ encoders_in i → v ≡ low_number (get_or l i d) → out' ≡ sets out (64 + 8 * i) (le_bytes 8 v) → out' ≡ encoders_in (i + 1)
  encoders_on out i d v out' h here p q = q ∙ rw (p, here) (saved_more 8 (save_word low_number) (λ x. refl) out₀ 64 l i d h)

module _ (out₀ : List ℕ) (l : List Pwm) where
  abbrev pub pwms_in : ℕ → List ℕ
  pwms_in i = saved 16 save_pwm (λ x. refl) out₀ 224 i l

  -- one channel more
  pub pwms_on : (out : List ℕ) (i : ℕ) (d : Pwm) (out' : List ℕ) → i < length l → out ≡ pwms_in i → out' ≡ sets out (224 + 16 * i) (save_pwm (get_or l i d)) → out' ≡ pwms_in (i + 1)
  pwms_on out i d out' h here q = q ∙ rw here (saved_more 16 save_pwm (λ x. refl) out₀ 224 l i d h)

-- two elements in a row
module _ {X : Type 0} (save : X → List ℕ) where
  pub two : (l : List X) (d : X) → length l ≡ 2 → save_many save l ≡ save (get_or l 0 d) ++ save (get_or l 1 d)
  unfolding save_many
  two [] d h = absurd (omega (arith, h))
  two (x ∷ []) d h = absurd (omega (arith, h))
  two (x ∷ y ∷ []) d h = ap (λ (t : List ℕ). save x ++ t) (append-nil (save y))
  two (x ∷ y ∷ z ∷ l) d h = absurd (omega (arith, h))

four_puts : (o₀ o₁ o₂ o₃ o₄ a b c d : List ℕ) → o₁ ≡ sets o₀ 32 a → o₂ ≡ sets o₁ 40 b → o₃ ≡ sets o₂ 48 c → o₄ ≡ sets o₃ 56 d → length a ≡ 8 → length b ≡ 8 → length c ≡ 8
    → o₄ ≡ sets o₀ 32 ((a ++ b) ++ (c ++ d))
four_puts o₀ o₁ o₂ o₃ o₄ a b c d p₁ p₂ p₃ p₄ ha hb hc =
    p₄
    ∙ rw (p₃, p₂, p₁)
    (sets_append (sets (sets o₀ 32 a) 40 b) c d 48 8 hc
    ∙ sets_append (sets o₀ 32 a) b (c ++ d) 40 8 hb
    ∙ sets_append o₀ a (b ++ (c ++ d)) 32 8 ha
    ∙ ap (sets o₀ 32) (sym (append_assoc a b (c ++ d))))

module _ (f : Flat) (selects-long : length f.selects ≡ 2) (i2cs-long : length f.i2cs ≡ 2) where
  pub firsts_put : (d : I2c) (v w : ℕ) (o₀ o₁ o₂ o₃ o₄ : List ℕ) → o₁ ≡ sets o₀ 32 (le_bytes 8 (get_or f.selects 0 0)) → o₂ ≡ sets o₁ 40 (le_bytes 8 (get_or f.selects 1 0))
      → v ≡ i2c_number (get_or f.i2cs 0 d) → o₃ ≡ sets o₂ 48 (le_bytes 8 v) → w ≡ i2c_number (get_or f.i2cs 1 d) → o₄ ≡ sets o₃ 56 (le_bytes 8 w)
      → o₄ ≡ sets o₀ 32 (save_many (le_bytes 8) f.selects ++ save_many (save_word i2c_number) f.i2cs)
  firsts_put d v w o₀ o₁ o₂ o₃ o₄ a b p c q e =
      four_puts o₀ o₁ o₂ o₃ o₄ (le_bytes 8 (get_or f.selects 0 0)) (le_bytes 8 (get_or f.selects 1 0)) (le_bytes 8 (i2c_number (get_or f.i2cs 0 d))) (le_bytes 8 (i2c_number (get_or f.i2cs 1 d))) a b
      (c ∙ ap (λ (n : ℕ). sets o₂ 48 (le_bytes 8 n)) p)
      (e ∙ ap (λ (n : ℕ). sets o₃ 56 (le_bytes 8 n)) q)
      refl refl refl
      ∙ (λ i. sets o₀ 32 (sym (two (le_bytes 8) f.selects 0 selects-long) i ++ sym (two (save_word i2c_number) f.i2cs d i2cs-long) i))
