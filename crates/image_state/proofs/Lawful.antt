-- The codec of a stream's state, of its parts.
-- Assumes nothing.
use mathlib.Core.Path.{◌≡◌, refl, sym, ap, ◌∙◌, subst}
use mathlib.Core.Bool.{Bool, true, false, cond, ◌&&◌, ◌||◌}
use mathlib.Core.List.{List, [], ◌∷◌}
use Prim.Native.Nat.{ℕ, zero, suc, ◌+◌, ◌*◌, ◌-◌, ◌/◌, ◌%◌, ◌^◌, ◌<◌}
use native.Mathlib.Omega.{arith}
use lib.ListN.{length, take, replicate}
use lib.Seq.{length-take-le}
use lib.Dec.{ltb, leb, eqb}
use borrow.Author.Tests.{le-leb, lt-leb, leb-true, eq-eqb, ne_eqb, eqb-true, ltb-true, ltb-false, lt-ltb}
use Rattle.laws.proofs.Truth.{both_true}
use Rattle.numbers.specs.Bytes.{byte, le_of}
use Rattle.edition.specs.Edition.{known}
use Rattle.encoder.specs.declared.Encoder.{Encoder}
use Rattle.pwm.specs.declared.Pwm.{Pwm}
use Rattle.pwm.specs.Facts.{Short}
use Rattle.i2c.specs.declared.I2c.{I2c}
use Rattle.banks.specs.declared.Flat.{Flat}
use Rattle.banks.specs.How.{state_of}
use Rattle.live_state.specs.Live.{Live}
use Rattle.codec.specs.How.{Lawful, Number, load_word, ok_word, save_many, load_many, ok_many, Each, FitMany}
use Rattle.codec.proofs.Word.{word_lawful, any_number, byte_lawful}
use Rattle.codec.proofs.Many.{many_lawful, both}
use Rattle.codec.proofs.Build.{then_lawful, such_lawful, struct_lawful}
use Rattle.codec.proofs.Each.{each_get, get_each, each_take, each_append}
use Rattle.image_words.specs.Words.{FitsEncoder, FitsI2c}
use Rattle.image_pwm.specs.Words.{FitsPwm}
use Rattle.image_words.specs.How.{encoder_of, is_encoder, i2c_of, is_i2c, is_select}
use Rattle.image_pwm.specs.How.{is_short}
use Rattle.image_pwm.proofs.Laid.{remainder_small}
use Rattle.image_words.proofs.Digits.{select_number, i2c_number_lem, encoder_number_lem}
use Rattle.image_pwm.proofs.Digits.{FitsRegisters, registers_number_lem, FitsWave, wave_number_lem}
use Rattle.image_state.specs.Image.{Fits}
use Rattle.image_state.specs.How.{head_number, save_pwm, words_of, load_pwm, ok_pwm, is_refusal, is_head}
use Rattle.image_state.proofs.Flats.{laid_out, state_back, flat_back, FitsLists, lists_fit, sized, state_fits}
use Rattle.image_state.proofs.Pads.{padded, filled, filled_back, filled_long, filled_padded, take_filled}

-- ---- a PWM channel

short_is : (p : Pwm) → Short p → is_short p ≡ true
unfolding is_short
short_is p h = le-leb _ _ h

is_short_lem : (p : Pwm) → is_short p ≡ true → Short p
unfolding is_short
is_short_lem p h = leb-true _ _ h

pub pwm_lawful : Lawful 16 save_pwm load_pwm ok_pwm FitsPwm
pwm_lawful =
    struct_lawful
    (λ p. p)
    (λ p. p)
    (λ p f. refl)
    (λ p f. refl)
    (λ p f. ((record { max = f.0; cmp = f.1; cnfg = f.2; cs = f.3 }, record { counter = f.4; remainder = remainder_small p f }), short_is p f.5))
    (λ p f. (f.0.0.max, f.0.0.cmp, f.0.0.cnfg, f.0.0.cs, f.0.1.counter, is_short_lem p f.1))
    (such_lawful is_short
    (struct_lawful
    {Ranges = λ (p : Pwm). FitsRegisters p.registers × FitsWave p.wave}
    (λ (p : Pwm). (p.registers, p.wave))
    (λ y. record { registers = y.0; wave = y.1 })
    (λ p f. refl)
    (λ y f. refl)
    (λ p f. f)
    (λ y f. f)
    (then_lawful (word_lawful registers_number_lem) (word_lawful wave_number_lem))))

-- ---- the stream's own numbers: the refusal, how many bytes are carried, the edition

pub refusal_small : (n : ℕ) → is_refusal n ≡ true → n < 19
refusal_small n h = by (ltb n 19) refl
  where
    by : (b : Bool) → ltb n 19 ≡ b → n < 19
    by true e = ltb-true n 19 e
    by false e =
        let l = ltb-false n 19 e in
        let none : is_refusal n ≡ false = rw (ne_eqb n 0 (λ x. omega arith), le-leb 7 n (omega arith), lt-leb n 11 (omega arith), ne_eqb n 16 (λ x. omega arith), ne_eqb n 18 (λ x. omega arith)) in
        let z : ◌≡◌ {A = Bool} true false = sym h ∙ none in
        absurd (different z)
      where
        different : ◌≡◌ {A = Bool} true false → ⊥
        different z = let w : ◌≡◌ {A = ℕ} 0 1 = cc in omega arith

pub record Small (r h e : ℕ) : Type 0 where
  pub refused : r < 19
  pub held : h < 16
  pub edition : e < 5

pub head_small : (refused held edition : ℕ) → is_head refused held edition ≡ true → Small refused held edition
head_small r h e p =
    let a = both_true (known e) (is_refusal r && (ltb h 16 && (eqb r 0 || eqb h 0))) p in
    let b = both_true (is_refusal r) (ltb h 16 && (eqb r 0 || eqb h 0)) a.1 in
    let c = both_true (ltb h 16) (eqb r 0 || eqb h 0) b.1 in
    record {
      refused = refusal_small r b.0;
      held = ltb-true h 16 c.0;
      edition = omega (arith, leb-true e 4 (both_true (leb 1 e) (leb e 4) a.0).1);
    }

-- up to 15 bytes, and none after a refused record
held_below : (b : Bool) (h : ℕ) → (ltb h 16 && (b || eqb h 0)) ≡ true → h < cond b 16 1
held_below true h p = ltb-true h 16 (both_true (ltb h 16) true p).0
held_below false h p = omega (arith, eqb-true h 0 (both_true (ltb h 16) (eqb h 0) p).1)

below_held : (b : Bool) (h : ℕ) → h < cond b 16 1 → (ltb h 16 && (b || eqb h 0)) ≡ true
below_held true h l = both (ltb h 16) true (lt-ltb h 16 l) refl
below_held false h l = both (ltb h 16) (eqb h 0) (lt-ltb h 16 (omega arith)) (eq-eqb h 0 (omega arith))

pub head_fits : (l : Live) → Fits l → is_head l.refused (length l.carried) l.edition ≡ true
head_fits l f = both _ _ f.edition (both _ _ f.refused (below_held (eqb l.refused 0) (length l.carried) f.held))

abbrev pub Head : Type 0
Head = ℕ × (ℕ × ℕ)

module _ (r h e n : ℕ) (is : n ≡ r + 2 ^ 8 * h + 2 ^ 16 * e) (s : Small r h e) where
  head_r : n % 2 ^ 8 ≡ r
  head_r = omega (arith, s.refused, s.held)

  head_h : n / 2 ^ 8 % 2 ^ 8 ≡ h
  head_h = omega (arith, s.refused, s.held)

  head_e : n / 2 ^ 16 ≡ e
  head_e = omega (arith, s.refused, s.held)

  head_low : n < 256 ^ 8
  head_low = omega (arith, s.refused, s.held, s.edition)

abbrev good_head : ℕ → Bool
good_head v = is_head (v % 2 ^ 8) (v / 2 ^ 8 % 2 ^ 8) (v / 2 ^ 16)

head_number_lem : Number good_head (λ (h : Head). head_number h.0 h.1.0 h.1.1) (λ v. (v % 2 ^ 8, (v / 2 ^ 8 % 2 ^ 8, v / 2 ^ 16))) (λ h. is_head h.0 h.1.0 h.1.1 ≡ true)
unfolding head_number
head_number_lem = record {
  small = λ h f. head_low h.0 h.1.0 h.1.1 _ refl (head_small h.0 h.1.0 h.1.1 f);
  back = λ h f i.
      let s = head_small h.0 h.1.0 h.1.1 f in
      (head_r h.0 h.1.0 h.1.1 _ refl s i, (head_h h.0 h.1.0 h.1.1 _ refl s i, head_e h.0 h.1.0 h.1.1 _ refl s i));
  passes = λ h f.
      let s = head_small h.0 h.1.0 h.1.1 f in
      rw (head_r h.0 h.1.0 h.1.1 _ refl s, head_h h.0 h.1.0 h.1.1 _ refl s, head_e h.0 h.1.0 h.1.1 _ refl s) f;
  image = λ v s h. omega arith;
  fits = λ v s h. h;
}

-- ---- all of it

abbrev Parts : Type 0
Parts = Head × (ℕ × (List ℕ × (List ℕ × (List I2c × (List Encoder × List Pwm)))))

abbrev flat_in : Parts → Flat
flat_in y = record { selects = y.1.1.1.0; encoders = y.1.1.1.1.1.0; pwms = y.1.1.1.1.1.1; i2cs = y.1.1.1.1.0 }

abbrev parts_of : Live → Parts
parts_of l = let f = laid_out l.state in ((l.refused, (length l.carried, l.edition)), (l.applied, (filled l.carried, (f.selects, (f.i2cs, (f.encoders, f.pwms))))))

abbrev whole_of : Parts → Live
whole_of y = record { edition = y.0.1.1; state = state_of (flat_in y); carried = take y.0.1.0 y.1.1.0; applied = y.1.0; refused = y.0.0 }

abbrev load_parts : List ℕ → ℕ → Parts
load_parts s at =
    let v = le_of 8 s at in
    ((v % 2 ^ 8, (v / 2 ^ 8 % 2 ^ 8, v / 2 ^ 16)), (le_of 8 s (at + 8), (load_many 1 byte 16 s (at + 8 + 8), (load_many 8 (load_word (λ (n : ℕ). n)) 2 s (at + 8 + 8 + 16), (load_many 8 (load_word i2c_of) 2 s (at + 8 + 8 + 16 + 16), (load_many 8 (load_word encoder_of) 20 s (at + 8 + 8 + 16 + 16 + 16), load_many 16 load_pwm 40 s (at + 8 + 8 + 16 + 16 + 16 + 160)))))))

-- sixteen bytes, as they are
bytes_same : (l : List ℕ) → save_many (λ (v : ℕ). v ∷ []) l ≡ l
unfolding save_many
bytes_same [] = refl
bytes_same (x ∷ l) = ap (λ (t : List ℕ). x ∷ t) (bytes_same l)

bytes_lawful : Lawful 16 (λ (l : List ℕ). l) (load_many 1 byte 16) (ok_many 1 (λ s at. true) 16) (FitMany (λ v. v < 256) 16)
bytes_lawful = subst (λ (save : List ℕ → List ℕ). Lawful 16 save (load_many 1 byte 16) (ok_many 1 (λ s at. true) 16) (FitMany (λ v. v < 256) 16)) (λ i l. bytes_same l i) (many_lawful byte_lawful 16)

abbrev ok_parts : List ℕ → ℕ → Bool
ok_parts s at =
    good_head (le_of 8 s at)
    && (true
    && (ok_many 1 (λ t j. true) 16 s (at + 8 + 8)
    && (ok_many 8 (ok_word is_select) 2 s (at + 8 + 8 + 16)
    && (ok_many 8 (ok_word is_i2c) 2 s (at + 8 + 8 + 16 + 16)
    && (ok_many 8 (ok_word is_encoder) 20 s (at + 8 + 8 + 16 + 16 + 16) && ok_many 16 ok_pwm 40 s (at + 8 + 8 + 16 + 16 + 16 + 160))))))

abbrev pub load_at : List ℕ → ℕ → Live
load_at s at = whole_of (load_parts s at)

abbrev pub ok_at : List ℕ → ℕ → Bool
ok_at s at = ok_parts s at && padded (le_of 8 s at / 2 ^ 8 % 2 ^ 8) (load_many 1 byte 16 s (at + 8 + 8))

FitsParts : Parts → Type 0
FitsParts y =
    (is_head y.0.0 y.0.1.0 y.0.1.1 ≡ true)
    × ((y.1.0 < 256 ^ 8)
    × (FitMany (λ v. v < 256) 16 y.1.1.0
    × (FitMany (λ v. v < 2 ^ 40) 2 y.1.1.1.0
    × (FitMany FitsI2c 2 y.1.1.1.1.0 × (FitMany FitsEncoder 20 y.1.1.1.1.1.0 × FitMany FitsPwm 40 y.1.1.1.1.1.1)))))

abbrev FitsPadded : Parts → Type 0
FitsPadded y = FitsParts y × (padded y.0.1.0 y.1.1.0 ≡ true)

lists_of : (y : Parts) → FitsParts y → FitsLists (flat_in y)
unfolding FitsParts
lists_of y f = record { selects = f.1.1.1.0; i2cs = f.1.1.1.1.0; encoders = f.1.1.1.1.1.0; pwms = f.1.1.1.1.1.1 }

whole_back : (l : Live) → Fits l → whole_of (parts_of l) ≡ l
whole_back l f i = record { edition = l.edition; state = state_back l.state f.banks i; carried = take_filled l.carried i; applied = l.applied; refused = l.refused }

parts_back : (y : Parts) → FitsPadded y → parts_of (whole_of y) ≡ y
unfolding FitsParts
parts_back y f =
    let held = (head_small y.0.0 y.0.1.0 y.0.1.1 f.0.0).held in
    let long : length (take y.0.1.0 y.1.1.0) ≡ y.0.1.0 = length-take-le y.0.1.0 y.1.1.0 (omega (arith, f.0.1.1.0.0)) in
    let flat = flat_back (flat_in y) (sized (flat_in y) (lists_of y f.0)) in
    λ i.
    ((y.0.0, (long i, y.0.1.1)), (y.1.0, (filled_back y.0.1.0 y.1.1.0 f.0.1.1.0.0 held f.1 i, ((flat i).selects, ((flat i).i2cs, ((flat i).encoders, (flat i).pwms))))))

filled_bytes : (l : List ℕ) → ((i : ℕ) → byte l i < 256) → Each (λ v. v < 256) (filled l)
filled_bytes l h = each_append (λ v. v < 256) l (replicate (16 - length l) 0) (get_each (λ v. v < 256) l 0 h) (zeros (16 - length l))
  where
    zeros : (n : ℕ) → Each (λ v. v < 256) (replicate n 0)
    zeros zero = tt
    zeros (suc n) = (omega arith, zeros n)

parts_fit : (l : Live) → Fits l → FitsPadded (parts_of l)
unfolding FitsParts
parts_fit l f =
    let head = head_fits l f in
    let held = (head_small l.refused (length l.carried) l.edition head).held in
    let lists = lists_fit l.state f.banks in
    ((head, (f.applied, ((filled_long l.carried held, filled_bytes l.carried f.carried), (lists.selects, (lists.i2cs, (lists.encoders, lists.pwms)))))), filled_padded l.carried held)

whole_fits : (y : Parts) → FitsPadded y → Fits (whole_of y)
unfolding FitsParts
whole_fits y f =
    let held = (head_small y.0.0 y.0.1.0 y.0.1.1 f.0.0).held in
    let long : length (take y.0.1.0 y.1.1.0) ≡ y.0.1.0 = length-take-le y.0.1.0 y.1.1.0 (omega (arith, f.0.1.1.0.0)) in
    let a = both_true (known y.0.1.1) _ f.0.0 in
    let b = both_true (is_refusal y.0.0) _ a.1 in
    record {
      edition = a.0;
      refused = b.0;
      held = rw long (held_below (eqb y.0.0 0) y.0.1.0 b.1);
      applied = f.0.1.0;
      carried = each_get (λ v. v < 256) (take y.0.1.0 y.1.1.0) 0 (omega arith) (each_take (λ v. v < 256) y.0.1.0 y.1.1.0 f.0.1.1.0.1);
      banks = state_fits (flat_in y) (lists_of y f.0);
    }

pub stream_lawful : Lawful 864 words_of load_at ok_at Fits
unfolding words_of FitsParts
stream_lawful =
    struct_lawful parts_of whole_of whole_back parts_back parts_fit whole_fits
    (such_lawful (λ (y : Parts). padded y.0.1.0 y.1.1.0)
    (then_lawful (word_lawful head_number_lem)
    (then_lawful (word_lawful any_number)
    (then_lawful bytes_lawful
    (then_lawful (many_lawful (word_lawful select_number) 2)
    (then_lawful (many_lawful (word_lawful i2c_number_lem) 2) (then_lawful (many_lawful (word_lawful encoder_number_lem) 20) (many_lawful pwm_lawful 40))))))))
