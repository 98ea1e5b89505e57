-- The stream from its parts as the code makes them, and its image from the parts that the code writes.
-- Assumes nothing.
use mathlib.Core.Path.{◌≡◌, refl, sym, ap, ◌∙◌, subst}
use mathlib.Core.Bool.{Bool, true}
use mathlib.Core.List.{List, [], ◌∷◌, ◌++◌, append_assoc}
use Prim.Native.Nat.{ℕ, ◌+◌, ◌/◌, ◌%◌, ◌^◌, ◌≤◌, ◌<◌}
use native.Mathlib.Omega.{arith}
use lib.ListN.{length, take, drop, length-append, length-drop, take-append-drop}
use lib.Seq.{sets, sets-eq, length-take-le}
use borrow.Rule.Slice.PartMut.{put_mid}
use Rattle.std.proofs.Common.{drop-drop}
use Rattle.numbers.specs.Bytes.{byte, le_of, le_bytes}
use Rattle.codec.specs.How.{Bytes, save_word, save_many, load_many, Each}
use Rattle.codec.proofs.Loops.{sets_append, many_long}
use Rattle.codec.proofs.Each.{length_many}
use Rattle.encoder.specs.declared.Encoder.{Encoder}
use Rattle.banks.specs.declared.State.{State}
use Rattle.banks.specs.declared.Flat.{Flat}
use Rattle.banks.specs.How.{state_of}
use Rattle.banks.proofs.Whole.{Whole}
use Rattle.live_state.specs.declared.Stream.{Stream}
use Rattle.live_state.specs.How.{live_of}
use Rattle.live_state.specs.Live.{end_of}
use Rattle.live_state.proofs.Refused.{positive}
use Rattle.std.specs.Prelude.{cond, ◌==◌}
use Rattle.image_words.specs.Words.{FitsEncoder}
use Rattle.image_words.specs.How.{i2c_number, encoder_number, low_number}
use Rattle.image_words.proofs.Numbers.{low_number_lem}
use Rattle.image_state.specs.Image.{image_of}
use Rattle.std.proofs.Common.{Option, None, Some, ne_eqb}
use Rattle.refused.specs.Number.{number, number_of}
use Rattle.refused.specs.declared.Refusal.{Refusal}
use Rattle.image_state.specs.How.{refusal_of, FitsState, head_number, save_pwm, words_of, load_of, is_state, flat_of, Loads, Saves}
use Rattle.image_state.proofs.Flats.{laid_out, flat_back, state_loaded, lists_fit, FitsLists, Sized}
use Rattle.image_state.proofs.Pads.{filled, zeros_past}
use Rattle.image_state.proofs.Passing.{passed, loads_same}
use Rattle.image_state.proofs.Laid.{words_laid}
use Rattle.image_state.proofs.Loaded.{image_long, stands}

-- ---- loading

pub all_room : (s : List ℕ) → is_state s ≡ true → 864 ≤ length s
all_room s h = (passed s h).long

pub first_room : (s : List ℕ) → is_state s ≡ true → 0 + 8 ≤ length s
first_room s h = omega (arith, all_room s h)

whole_of : (s : State) → FitsState s → Whole s
whole_of s f = record { two = f.0; each = λ k h. let b = f.1 k h in record { ten = b.encoders.0; twenty = b.pwms.0; short = λ i. (b.pwms.1 i).5 } }

abbrev made : ℕ → Flat → List ℕ → ℕ → Option Refusal → Stream
made v f a n r = record { edition = v / 2 ^ 16; flat = f; carried = a; held = v / 2 ^ 8 % 2 ^ 8; applied = n; refused = r }

live_made : (s : List ℕ) → 864 ≤ length s → le_of 8 s 0 / 2 ^ 8 % 2 ^ 8 < 16 → number_of (refusal_of (le_of 8 s 0 % 2 ^ 8)) ≡ le_of 8 s 0 % 2 ^ 8 → live_of (made (le_of 8 s 0) (flat_of s) (load_many 1 byte 16 s 16) (le_of 8 s 8) (refusal_of (le_of 8 s 0 % 2 ^ 8))) ≡ load_of s
unfolding flat_of
live_made s h k e = rw e (loads_same s h k)

loads_made : (s : List ℕ) → Bytes s → is_state s ≡ true → Loads s (made (le_of 8 s 0) (flat_of s) (load_many 1 byte 16 s 16) (le_of 8 s 8) (refusal_of (le_of 8 s 0 % 2 ^ 8)))
loads_made s b h =
    let p = passed s h in
    record {
      live = live_made s p.long p.held p.refused;
      whole = subst Whole (sym (state_loaded s)) (whole_of (load_of s).state (stands s b h).0.banks);
      few = p.held;
      zeros = zeros_past (le_of 8 s 0 / 2 ^ 8 % 2 ^ 8) (load_many 1 byte 16 s 16) (length_many 1 byte s 16 16) p.held p.pads;
    }

pub load_done : (s : List ℕ) (v : ℕ) (f : Flat) (a : List ℕ) (n : ℕ) (r : Option Refusal) → Bytes s → is_state s ≡ true → v ≡ le_of 8 s 0 → f ≡ flat_of s → a ≡ load_many 1 byte 16 s 16 → n ≡ le_of 8 s 8
    → r ≡ refusal_of (v % 2 ^ 8) → Loads s (made v f a n r)
load_done s v f a n r b h pv pf pa pn pr = rw (pr, pv, pf, pa, pn) (loads_made s b h)

-- how a stream ends is told by its head, of which v is the number and r the refusal
module _ (s : List ℕ) (v : ℕ) (r : Option Refusal) (is : is_state s ≡ true) (pv : v ≡ le_of 8 s 0) (pr : r ≡ refusal_of (v % 2 ^ 8)) where
  ends_by : cond (number_of r == 0) (cond (v / 2 ^ 8 % 2 ^ 8 == 0) 0 5) (number_of r) ≡ end_of (load_of s)
  unfolding load_of
  ends_by =
      let p = passed s is in
      let held = le_of 8 s 0 / 2 ^ 8 % 2 ^ 8 in
      let long : length (take held (drop 16 s)) ≡ held = length-take-le held (drop 16 s) (omega (arith, length-drop 16 s, p.long, p.held)) in
      rw (pr, pv, p.refused, long)

  pub ends_refused : (k : Refusal) → r ≡ Some k → number k ≡ end_of (load_of s)
  ends_refused k e =
      let held = cond (v / 2 ^ 8 % 2 ^ 8 == 0) 0 5 in
      ap (λ (b : Bool). cond b held (number k)) (sym (ne_eqb (number k) 0 (positive k)))
      ∙ subst (λ (o : Option Refusal). cond (number_of o == 0) held (number_of o) ≡ end_of (load_of s)) e ends_by

  module _ (none : r ≡ None) where
    ends_held : cond (v / 2 ^ 8 % 2 ^ 8 == 0) 0 5 ≡ end_of (load_of s)
    ends_held = subst (λ (o : Option Refusal). cond (number_of o == 0) (cond (v / 2 ^ 8 % 2 ^ 8 == 0) 0 5) (number_of o) ≡ end_of (load_of s)) none ends_by

    pub ends_empty : v / 2 ^ 8 % 2 ^ 8 ≡ 0 → 0 ≡ end_of (load_of s)
    ends_empty e = ap (λ (n : ℕ). cond (n == 0) 0 5) (sym e) ∙ ends_held

    pub ends_over : (v / 2 ^ 8 % 2 ^ 8 ≡ 0 → ⊥) → 5 ≡ end_of (load_of s)
    ends_over n = ap (λ (b : Bool). cond b 0 5) (sym (ne_eqb (v / 2 ^ 8 % 2 ^ 8) 0 n)) ∙ ends_held

-- ---- saving

abbrev lists_in : Flat → List ℕ
lists_in f = save_many (le_bytes 8) f.selects ++ (save_many (save_word i2c_number) f.i2cs ++ (save_many (save_word encoder_number) f.encoders ++ save_many save_pwm f.pwms))

pieces : (a a' b c c' t t' : List ℕ) → a ≡ a' → c ≡ c' → t ≡ t' → a ++ (b ++ (c ++ t)) ≡ a' ++ (b ++ (c' ++ t'))
pieces a a' b c c' t t' p q r = rw (p, q, r)

-- the image by the flat arrays
image_flat : (x : Stream) → Saves x → Sized x.flat → length x.carried ≡ 16
    → words_of (live_of x) ≡ le_bytes 8 (head_number (number_of x.refused) x.held x.edition) ++ (le_bytes 8 x.applied ++ (x.carried ++ lists_in x.flat))
unfolding words_of
image_flat x s z l =
    let few = s.few in
    let long : length (take x.held x.carried) ≡ x.held = length-take-le x.held x.carried (omega arith) in
    let full : filled (take x.held x.carried) ≡ x.carried = rw (long, ← s.zeros) (take-append-drop x.held x.carried) in
    pieces (le_bytes 8 (head_number (number_of x.refused) (length (take x.held x.carried)) x.edition)) (le_bytes 8 (head_number (number_of x.refused) x.held x.edition)) (le_bytes 8 x.applied) (filled (take x.held x.carried)) x.carried (lists_in (laid_out (state_of x.flat))) (lists_in x.flat) (ap (λ (n : ℕ). le_bytes 8 (head_number (number_of x.refused) n x.edition)) long) full (ap lists_in (flat_back x.flat z))

lows : (l : List Encoder) → Each FitsEncoder l → save_many (save_word low_number) l ≡ save_many (save_word encoder_number) l
unfolding save_many
lows [] f = refl
lows (e ∷ l) f = rw (low_number_lem e f.0, lows l f.1)

six_puts : (o₀ o₁ o₂ o₃ o₄ o₅ o₆ a b c d e p : List ℕ) → o₁ ≡ sets o₀ 0 a → o₂ ≡ sets o₁ 8 b → o₃ ≡ sets o₂ 16 c → o₄ ≡ sets o₃ 32 d → o₅ ≡ sets o₄ 64 e → o₆ ≡ sets o₅ 224 p
    → length a ≡ 8 → length b ≡ 8 → length c ≡ 16 → length d ≡ 32 → length e ≡ 160 → o₆ ≡ sets o₀ 0 (a ++ (b ++ (c ++ (d ++ (e ++ p)))))
six_puts o₀ o₁ o₂ o₃ o₄ o₅ o₆ a b c d e p p₁ p₂ p₃ p₄ p₅ p₆ ha hb hc hd he =
    p₆
    ∙ rw (p₅, p₄, p₃, p₂, p₁)
    (sets_append (sets (sets (sets (sets o₀ 0 a) 8 b) 16 c) 32 d) e p 64 160 he
    ∙ sets_append (sets (sets (sets o₀ 0 a) 8 b) 16 c) d (e ++ p) 32 32 hd
    ∙ sets_append (sets (sets o₀ 0 a) 8 b) c (d ++ (e ++ p)) 16 16 hc
    ∙ sets_append (sets o₀ 0 a) b (c ++ (d ++ (e ++ p))) 8 8 hb
    ∙ sets_append o₀ a (b ++ (c ++ (d ++ (e ++ p)))) 0 8 ha)

-- sixteen bytes copied into their place
pub copied : (o a b : List ℕ) → b ≡ a → length a ≡ 16 → 864 ≤ length o → put_mid 16 16 o b ≡ sets o 16 a
copied o a b same long room =
    ap (put_mid 16 16 o) same
    ∙ ap (λ (l : List ℕ). take 16 o ++ (a ++ l)) (drop-drop 16 16 o ∙ ap (λ (n : ℕ). drop n o) (let e : 16 + 16 ≡ 16 + length a = omega (arith, long) in e))
    ∙ sym (sets-eq a o 16 (omega (arith, long)) ∙ append_assoc (take 16 o) a (drop (16 + length a) o))

whole_image : (o im : List ℕ) → length im ≡ 864 → 864 ≤ length o → sets o 0 im ≡ im ++ drop 864 o
whole_image o im h k = sets-eq im o 0 (omega arith) ∙ ap (λ (n : ℕ). im ++ drop n o) (let e : 0 + length im ≡ 864 = omega arith in e)

pub stream_saved : (x : Stream) (n : ℕ) (o₀ o₁ o₂ o₃ o₄ o₅ o₆ : List ℕ) → Saves x → 864 ≤ length o₀ → n ≡ head_number (number_of x.refused) x.held x.edition → o₁ ≡ sets o₀ 0 (le_bytes 8 n)
    → o₂ ≡ sets o₁ 8 (le_bytes 8 x.applied) → o₃ ≡ sets o₂ 16 x.carried → length x.carried ≡ 16
    → o₄ ≡ sets o₃ 32 (save_many (le_bytes 8) x.flat.selects ++ save_many (save_word i2c_number) x.flat.i2cs) → length x.flat.selects ≡ 2 → length x.flat.i2cs ≡ 2
    → o₅ ≡ sets o₄ 64 (save_many (save_word low_number) x.flat.encoders) → length x.flat.encoders ≡ 20
    → o₆ ≡ sets o₅ 224 (save_many save_pwm x.flat.pwms) → length x.flat.pwms ≡ 40 → o₆ ≡ image_of (live_of x) ++ drop 864 o₀
stream_saved x n o₀ o₁ o₂ o₃ o₄ o₅ o₆ s room pn p₁ p₂ p₃ lc p₄ ls li p₅ le p₆ lp =
    let f = x.flat in
    let z : Sized f = record { selects = ls; encoders = le; pwms = lp; i2cs = li } in
    let fits : FitsLists f = subst FitsLists (flat_back f z) (lists_fit (state_of f) s.fits.banks) in
    let S = save_many (le_bytes 8) f.selects in
    let C = save_many (save_word i2c_number) f.i2cs in
    let E = save_many (save_word low_number) f.encoders in
    let long-s : length S ≡ 16 = many_long 8 (le_bytes 8) (λ v. refl) f.selects 2 ls in
    let long-c : length C ≡ 16 = many_long 8 (save_word i2c_number) (λ v. refl) f.i2cs 2 li in
    let long-e : length E ≡ 160 = many_long 8 (save_word low_number) (λ v. refl) f.encoders 20 le in
    let long-sc : length (S ++ C) ≡ 32 = length-append S C ∙ rw (long-s, long-c) in
    let H = le_bytes 8 (head_number (number_of x.refused) x.held x.edition) in
    let Q = save_many save_pwm f.pwms in
    six_puts o₀ o₁ o₂ o₃ o₄ o₅ o₆ H (le_bytes 8 x.applied) x.carried (S ++ C) E Q (p₁ ∙ ap (λ (m : ℕ). sets o₀ 0 (le_bytes 8 m)) pn) p₂ p₃ p₄ p₅ p₆ refl refl lc long-sc long-e
    ∙ ap (λ (t : List ℕ). sets o₀ 0 (H ++ (le_bytes 8 x.applied ++ (x.carried ++ t)))) (append_assoc S C (E ++ Q) ∙ ap (λ (t : List ℕ). S ++ (C ++ (t ++ Q))) (lows f.encoders fits.encoders.1))
    ∙ ap (sets o₀ 0) (sym (image_flat x s z lc) ∙ words_laid (live_of x) s.fits)
    ∙ whole_image o₀ (image_of (live_of x)) (image_long (live_of x) s.fits) room
