-- Both banks as four flat lists, and back; what is in range stays so.
-- Assumes nothing.
use mathlib.Core.Path.{◌≡◌, refl, ◌∙◌}
use mathlib.Core.List.{List, [], ◌∷◌, ◌++◌, map, append-nil, flatten}
use Prim.Native.Nat.{ℕ, zero, suc, ◌+◌, ◌*◌, ◌^◌, ◌<◌}
use native.Mathlib.Omega.{arith}
use lib.ListN.{length, take, drop, get_or, length-append, length-drop}
use lib.Seq.{take_at, drop_at, take_all, length-take-le, take-add}
use Rattle.encoder.specs.declared.Encoder.{Encoder}
use Rattle.encoder.specs.Encoder as encoder
use Rattle.pwm.specs.declared.Pwm.{Pwm}
use Rattle.pwm.specs.Pwm as pwm
use Rattle.i2c.specs.declared.I2c.{I2c}
use Rattle.bank.specs.declared.Bank.{Bank}
use Rattle.banks.specs.declared.State.{State}
use Rattle.banks.specs.declared.Flat.{Flat}
use Rattle.banks.specs.State.{no_i2c, bank_at}
use Rattle.banks.specs.How.{part, bank_in, state_of}
use Rattle.codec.specs.How.{load_word, load_many, FitMany}
use Rattle.codec.proofs.Each.{each_get, get_each, each_append, each_take, each_drop, take_many, drop_many}
use Rattle.image_words.specs.Words.{FitsEncoder, FitsI2c}
use Rattle.image_pwm.specs.Words.{FitsPwm}
use Rattle.image_words.specs.How.{encoder_of}
use Rattle.image_state.specs.Image.{FitsBank}
use Rattle.image_state.specs.How.{FitsState, load_pwm, load_of, flat_of}

-- ---- the lists of a state

abbrev pub selects_of : State → List ℕ
selects_of s = map (λ (b : Bank). b.select) s.banks

abbrev pub i2cs_of : State → List I2c
i2cs_of s = map (λ (b : Bank). b.i2c) s.banks

abbrev pub encoders_of : State → List Encoder
encoders_of s = flatten (map (λ (b : Bank). b.encoders) s.banks)

abbrev pub pwms_of : State → List Pwm
pwms_of s = flatten (map (λ (b : Bank). b.pwms) s.banks)

abbrev pub laid_out : State → Flat
laid_out s = record { selects = selects_of s; encoders = encoders_of s; pwms = pwms_of s; i2cs = i2cs_of s }

module _ {A : Type 0} (n : ℕ) where
  -- two lists of n in a row
  first_part : (a b : List A) → length a ≡ n → part n 0 (a ++ (b ++ [])) ≡ a
  first_part a b h = let e : n * 0 ≡ 0 = omega arith in rw e (take_at a (b ++ []) n h)

  second_part : (a b : List A) → length a ≡ n → length b ≡ n → part n 1 (a ++ (b ++ [])) ≡ b
  second_part a b h k =
      let e : n * 1 ≡ n = omega arith in
      rw (e, drop_at a (b ++ []) n h, append-nil b) (take_all n b (omega arith))

  both_parts : (l : List A) → length l ≡ n + n → part n 0 l ++ (part n 1 l ++ []) ≡ l
  both_parts l h =
      let e : n * 0 ≡ 0 = omega arith in
      let f : n * 1 ≡ n = omega arith in
      rw (e, f, append-nil (take n (drop n l)), ← take-add n n l) (take_all (n + n) l (omega arith))

two_of : {A : Type 0} (l : List A) (d : A) → length l ≡ 2 → get_or l 0 d ∷ get_or l 1 d ∷ [] ≡ l
two_of [] d h = absurd (omega (arith, h))
two_of (x ∷ []) d h = absurd (omega (arith, h))
two_of (x ∷ y ∷ []) d h = refl
two_of (x ∷ y ∷ z ∷ l) d h = absurd (omega (arith, h))

-- a state of two whole banks is what its lists make
pub state_back : (s : State) → FitsState s → state_of (laid_out s) ≡ s
unfolding state_of flatten
state_back s f = go s.banks f.0 (f.1 0 (omega arith)) (f.1 1 (omega arith))
  where
    go : (l : List Bank) → length l ≡ 2 → FitsBank (bank_at 0 (record { banks = l })) → FitsBank (bank_at 1 (record { banks = l })) → state_of (laid_out (record { banks = l })) ≡ record { banks = l }
    go [] h a b = absurd (omega (arith, h))
    go (x ∷ []) h a b = absurd (omega (arith, h))
    go (x ∷ y ∷ []) h a b =
        rw (first_part 10 x.encoders y.encoders a.encoders.0, second_part 10 x.encoders y.encoders a.encoders.0 b.encoders.0, first_part 20 x.pwms y.pwms a.pwms.0, second_part 20 x.pwms y.pwms a.pwms.0 b.pwms.0)
    go (x ∷ y ∷ z ∷ l) h a b = absurd (omega (arith, h))

-- four lists are those of the state that they make
pub record Sized (f : Flat) : Type 0 where
  pub selects : length f.selects ≡ 2
  pub encoders : length f.encoders ≡ 20
  pub pwms : length f.pwms ≡ 40
  pub i2cs : length f.i2cs ≡ 2

pub flat_back : (f : Flat) → Sized f → laid_out (state_of f) ≡ f
unfolding state_of flatten
flat_back f z i = record {
  selects = two_of f.selects 0 z.selects i;
  encoders = both_parts 10 f.encoders z.encoders i;
  pwms = both_parts 20 f.pwms z.pwms i;
  i2cs = two_of f.i2cs no_i2c z.i2cs i;
}

-- ---- in range

fresh_encoder : FitsEncoder encoder.fresh
fresh_encoder = (omega arith, omega arith, omega arith, omega arith)

fresh_pwm : FitsPwm pwm.fresh
fresh_pwm = (omega arith, omega arith, refl, omega arith, omega arith, omega arith)

pub record FitsLists (f : Flat) : Type 0 where
  pub selects : FitMany (λ v. v < 2 ^ 40) 2 f.selects
  pub i2cs : FitMany FitsI2c 2 f.i2cs
  pub encoders : FitMany FitsEncoder 20 f.encoders
  pub pwms : FitMany FitsPwm 40 f.pwms

pub lists_fit : (s : State) → FitsState s → FitsLists (laid_out s)
unfolding flatten
lists_fit s f = go s.banks f.0 (f.1 0 (omega arith)) (f.1 1 (omega arith))
  where
    go : (l : List Bank) → length l ≡ 2 → FitsBank (bank_at 0 (record { banks = l })) → FitsBank (bank_at 1 (record { banks = l })) → FitsLists (laid_out (record { banks = l }))
    go [] h a b = absurd (omega (arith, h))
    go (x ∷ []) h a b = absurd (omega (arith, h))
    go (x ∷ y ∷ []) h a b = record {
      selects = (refl, (a.select, (b.select, tt)));
      i2cs = (refl, (a.i2c, (b.i2c, tt)));
      encoders = (length-append x.encoders (y.encoders ++ []) ∙ rw (a.encoders.0, append-nil y.encoders, b.encoders.0), each_append FitsEncoder x.encoders (y.encoders ++ []) (get_each FitsEncoder x.encoders encoder.fresh a.encoders.1) (each_append FitsEncoder y.encoders [] (get_each FitsEncoder y.encoders encoder.fresh b.encoders.1) tt));
      pwms = (length-append x.pwms (y.pwms ++ []) ∙ rw (a.pwms.0, append-nil y.pwms, b.pwms.0), each_append FitsPwm x.pwms (y.pwms ++ []) (get_each FitsPwm x.pwms pwm.fresh a.pwms.1) (each_append FitsPwm y.pwms [] (get_each FitsPwm y.pwms pwm.fresh b.pwms.1) tt));
    }
    go (x ∷ y ∷ z ∷ l) h a b = absurd (omega (arith, h))

pub sized : (f : Flat) → FitsLists f → Sized f
sized f z = record { selects = z.selects.0; encoders = z.encoders.0; pwms = z.pwms.0; i2cs = z.i2cs.0 }

fresh_i2c : FitsI2c no_i2c
fresh_i2c = (omega arith, omega arith, omega arith, omega arith)

part_long : {A : Type 0} (n k : ℕ) (l : List A) → k < 2 → length l ≡ n + n → length (part n k l) ≡ n
part_long n zero l h e = let z : n * 0 ≡ 0 = omega arith in rw z (length-take-le n l (omega arith))
part_long n (suc zero) l h e = let z : n * 1 ≡ n = omega arith in rw z (length-take-le n (drop n l) (rw (length-drop n l) (omega arith)))
part_long n (suc (suc k)) l h e = absurd (omega arith)

pub state_fits : (f : Flat) → FitsLists f → FitsState (state_of f)
unfolding state_of
state_fits f z = (refl, by)
  where
    one : (k : ℕ) → k < 2 → FitsBank (bank_in k f)
    one k h = record {
      select = each_get (λ v. v < 2 ^ 40) f.selects 0 (omega arith) z.selects.1 k;
      i2c = each_get FitsI2c f.i2cs no_i2c fresh_i2c z.i2cs.1 k;
      encoders = (part_long 10 k f.encoders h z.encoders.0, each_get FitsEncoder (part 10 k f.encoders) encoder.fresh fresh_encoder (each_take FitsEncoder 10 (drop (10 * k) f.encoders) (each_drop FitsEncoder (10 * k) f.encoders z.encoders.1)));
      pwms = (part_long 20 k f.pwms h z.pwms.0, each_get FitsPwm (part 20 k f.pwms) pwm.fresh fresh_pwm (each_take FitsPwm 20 (drop (20 * k) f.pwms) (each_drop FitsPwm (20 * k) f.pwms z.pwms.1)));
    }

    by : (k : ℕ) → k < 2 → FitsBank (bank_at k (state_of f))
    by zero h = one 0 h
    by (suc zero) h = one 1 h
    by (suc (suc k)) h = absurd (omega arith)

-- ---- what is loaded flat is the state that is loaded

pub state_loaded : (s : List ℕ) → state_of (flat_of s) ≡ (load_of s).state
unfolding state_of flat_of load_of load_many
state_loaded s =
    rw (take_many 8 (load_word encoder_of) s 10 10 64, drop_many 8 (load_word encoder_of) s 10 10 64, take_many 16 load_pwm s 20 20 224, drop_many 16 load_pwm s 20 20 224)
