-- A stream's image is what the code saves of it in words.
-- Assumes nothing.
use mathlib.Core.Path.{◌≡◌, refl, sym, ap, ◌∙◌}
use mathlib.Core.List.{List, [], ◌∷◌, ◌++◌, map, append-nil, append_assoc, flatten}
use Prim.Native.Nat.{ℕ, ◌+◌, ◌*◌, ◌-◌, ◌^◌}
use native.Mathlib.Omega.{arith}
use lib.ListN.{length, replicate}
use Rattle.numbers.specs.Bytes.{le_bytes}
use Rattle.encoder.specs.Encoder as encoder
use Rattle.pwm.specs.Pwm as pwm
use Rattle.bank.specs.declared.Bank.{Bank}
use Rattle.banks.specs.declared.State.{State}
use Rattle.banks.specs.State.{bank_at}
use Rattle.live_state.specs.Live.{Live}
use Rattle.codec.specs.How.{save_word, save_many, Each}
use Rattle.codec.proofs.Each.{get_each}
use Rattle.image_words.specs.Words.{i2c_bytes, encoder_bytes, FitsEncoder}
use Rattle.image_pwm.specs.Words.{pwm_bytes, FitsPwm}
use Rattle.image_words.specs.How.{i2c_number, encoder_number}
use Rattle.image_words.proofs.Laid.{low, i2c_bytes_lem, encoder_bytes_lem}
use Rattle.image_pwm.proofs.Laid.{pwm_bytes_lem}
use Rattle.image_state.specs.Image.{image_of, FitsBank, Fits}
use Rattle.image_state.specs.How.{FitsState, head_number, save_pwm, words_of}
use Rattle.image_state.proofs.Flats.{selects_of, i2cs_of, encoders_of, pwms_of}
use Rattle.image_state.proofs.Lawful.{head_fits, head_small}

module _ {X : Type 0} (save laid : X → List ℕ) (Fits : X → Type 0) (same : (x : X) → Fits x → save x ≡ laid x) where
  -- an array, each element by its own bytes
  array_laid : (xs : List X) → Each Fits xs → save_many save xs ≡ flatten (map laid xs)
  unfolding save_many flatten
  array_laid [] f = refl
  array_laid (x ∷ xs) f = rw (same x f.0, array_laid xs f.1)

  -- both banks' arrays in a row
  saved_both : (xs ys : List X) → save_many save (xs ++ ys) ≡ save_many save xs ++ save_many save ys
  unfolding save_many
  saved_both [] ys = refl
  saved_both (x ∷ xs) ys = rw (saved_both xs ys) (sym (append_assoc (save x) (save_many save xs) (save_many save ys)))

  arrays_laid : (xs ys : List X) → Each Fits xs → Each Fits ys → save_many save (xs ++ (ys ++ [])) ≡ flatten (map laid xs) ++ (flatten (map laid ys) ++ [])
  arrays_laid xs ys f g =
      rw (append-nil ys, append-nil (flatten (map laid ys)))
      (saved_both xs ys ∙ rw (array_laid xs f, array_laid ys g))

abbrev each_bank : (Bank → List ℕ) → State → List ℕ
each_bank f s = flatten (map f s.banks)

abbrev laid_in : State → List ℕ
laid_in s =
    each_bank (λ b. le_bytes 8 b.select) s
    ++ (each_bank (λ b. i2c_bytes b.i2c) s
    ++ (each_bank (λ b. flatten (map encoder_bytes b.encoders)) s ++ each_bank (λ b. flatten (map pwm_bytes b.pwms)) s))

abbrev saved_in : State → List ℕ
saved_in s =
    save_many (le_bytes 8) (selects_of s)
    ++ (save_many (save_word i2c_number) (i2cs_of s) ++ (save_many (save_word encoder_number) (encoders_of s) ++ save_many save_pwm (pwms_of s)))

state_laid : (s : State) → FitsState s → saved_in s ≡ laid_in s
unfolding save_many flatten
state_laid s f = go s.banks f.0 (f.1 0 (omega arith)) (f.1 1 (omega arith))
  where
    go : (l : List Bank) → length l ≡ 2 → FitsBank (bank_at 0 (record { banks = l })) → FitsBank (bank_at 1 (record { banks = l })) → saved_in (record { banks = l }) ≡ laid_in (record { banks = l })
    go [] h a b = absurd (omega (arith, h))
    go (x ∷ []) h a b = absurd (omega (arith, h))
    go (x ∷ y ∷ []) h a b = λ i.
        (le_bytes 8 x.select ++ (le_bytes 8 y.select ++ []))
        ++ ((i2c_bytes_lem x.i2c a.i2c i ++ (i2c_bytes_lem y.i2c b.i2c i ++ []))
        ++ (arrays_laid (save_word encoder_number) encoder_bytes FitsEncoder encoder_bytes_lem x.encoders y.encoders (get_each FitsEncoder x.encoders encoder.fresh a.encoders.1) (get_each FitsEncoder y.encoders encoder.fresh b.encoders.1) i
        ++ arrays_laid save_pwm pwm_bytes FitsPwm pwm_bytes_lem x.pwms y.pwms (get_each FitsPwm x.pwms pwm.fresh a.pwms.1) (get_each FitsPwm y.pwms pwm.fresh b.pwms.1) i))
    go (x ∷ y ∷ z ∷ l) h a b = absurd (omega (arith, h))

regroup : (x s c e p : List ℕ) → x ++ (s ++ (c ++ (e ++ p))) ≡ (((x ++ s) ++ c) ++ e) ++ p
regroup x s c e p = sym (simp append_assoc)

head_laid : (l : Live) → Fits l → le_bytes 8 (head_number l.refused (length l.carried) l.edition) ≡ l.refused ∷ length l.carried ∷ le_bytes 6 l.edition
unfolding head_number
head_laid l f =
    let s = head_small l.refused (length l.carried) l.edition (head_fits l f) in
    let p : l.refused + 2 ^ 8 * length l.carried + 2 ^ 16 * l.edition ≡ l.refused + 256 * (length l.carried + 256 * l.edition) = omega arith in
    ap (le_bytes 8) p
    ∙ low 7 l.refused (length l.carried + 256 * l.edition) _ (omega (arith, s.refused)) (low 6 (length l.carried) l.edition _ (omega (arith, s.held)) refl)

pub words_laid : (l : Live) → Fits l → words_of l ≡ image_of l
unfolding image_of words_of
words_laid l f =
    let c = l.carried ++ replicate (16 - length l.carried) 0 in
    ap (λ (h : List ℕ). h ++ (le_bytes 8 l.applied ++ (c ++ saved_in l.state))) (head_laid l f)
    ∙ ap (λ (t : List ℕ). (l.refused ∷ length l.carried ∷ le_bytes 6 l.edition) ++ (le_bytes 8 l.applied ++ t))
    (ap (λ (t : List ℕ). c ++ t) (state_laid l.state f.banks) ∙ regroup c _ _ _ _)
